-- The laws of this crate, for its proofs and those of the crates above it.
pub mod Empty
pub mod Found
pub mod Lookups
pub mod Puts
pub mod Room
pub mod Stored
pub mod Views
pub mod Slots
