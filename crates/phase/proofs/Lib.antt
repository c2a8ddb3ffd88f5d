-- The laws of a phase and its octets, for the proofs of the code over them.
pub mod Waits
pub mod Writes
pub mod Reading
pub mod Stages
pub mod Stood
pub mod Writing
pub mod Standings
