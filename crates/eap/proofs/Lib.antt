-- The laws of reading packets, for the proofs of this crate and of those above it.
pub mod Blocks
pub mod Headers
pub mod Reading
