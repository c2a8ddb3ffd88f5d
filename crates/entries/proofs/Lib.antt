-- The laws of this crate, for its proofs and those of the crates above it.
pub mod Barred
pub mod Halves
pub mod Homes
pub mod Noding
pub mod Preferences
pub mod Runs
pub mod Stands
pub mod Texts
pub mod Words
