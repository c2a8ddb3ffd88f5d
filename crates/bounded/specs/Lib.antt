-- At most so many values, in an array.
pub mod Bounded
