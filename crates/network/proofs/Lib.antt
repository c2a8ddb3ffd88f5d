-- The laws of the names and PLMNs, for the proofs of this crate and of those above it.
pub mod Names
pub mod Plmns
