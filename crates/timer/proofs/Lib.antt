-- The laws that the proofs of this crate share, and how long a hold lasts for those above it.
pub mod Table
pub mod Lengths
