-- The laws that the proofs of this crate share.
pub mod Finds
pub mod Lines
pub mod Texts
