-- What the steps on a lent record share, and their callers.
pub mod Leaving
