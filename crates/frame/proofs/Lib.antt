-- The laws of the tests at the entry of a call, of what is stored, and of what a timed call returns.
pub mod Entries
pub mod Stores
pub mod Timed
