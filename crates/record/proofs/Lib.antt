-- The laws of a record, for the proofs of the code over it.
pub mod Adding
pub mod Counts
pub mod Keeping
pub mod Lines
pub mod Sounds
pub mod Writing
pub mod RoundTrip
