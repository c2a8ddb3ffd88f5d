-- What the test of a table keeps.
pub mod Seen
