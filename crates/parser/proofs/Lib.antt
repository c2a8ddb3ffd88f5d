-- The laws that the proofs of this crate share.
pub mod Collects
pub mod Wholes
