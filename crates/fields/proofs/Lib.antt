-- The laws of fields at a place of a text, for the proofs of this crate and of those above it.
pub mod Characters
pub mod Joins
pub mod Names
pub mod Numbers
pub mod Places
pub mod Plmns
pub mod Priorities
pub mod Readings
pub mod Says
