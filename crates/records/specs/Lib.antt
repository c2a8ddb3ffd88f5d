-- What becomes of a table whose record is changed.
pub mod Stores
