-- What the code says of eight numbers that it compares.
pub mod Differ
