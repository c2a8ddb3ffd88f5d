-- The laws of this crate, for its proofs.
mod Kept
