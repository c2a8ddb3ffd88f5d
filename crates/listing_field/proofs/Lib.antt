-- The laws of texts that are stored, for the proofs of this crate and of those above it.
pub mod Digits
pub mod Phases
pub mod Puts
