-- What a choice and the address answer come to.
pub mod Attempt
