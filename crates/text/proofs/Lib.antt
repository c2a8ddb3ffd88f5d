-- The laws of numbers as texts, for the proofs of this crate and of those above it.
pub mod Texts
