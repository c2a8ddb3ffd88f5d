-- The laws of writing responses, for the proofs of this crate and of those above it.
pub mod Round
pub mod Writing
