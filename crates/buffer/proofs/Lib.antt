-- The laws of words and runs of zeros, for the proofs of this crate and of those above it.
pub mod Ors
pub mod Words
pub mod Zeros
