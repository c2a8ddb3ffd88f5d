-- The laws of steps, for the proofs of this crate and of those above it.
pub mod Bare
pub mod Running
pub mod Steps
pub mod Views
pub mod Shown
