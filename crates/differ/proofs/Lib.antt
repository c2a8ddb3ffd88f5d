-- The laws of this crate, for its proofs and those of the crates above it.
pub mod Apart
