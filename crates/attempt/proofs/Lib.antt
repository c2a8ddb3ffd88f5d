-- The laws of a choice and of the address answer, for the proofs of this crate and of those above it.
pub mod Held
pub mod Outcomes
pub mod Parts
pub mod Told
