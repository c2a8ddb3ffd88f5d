-- The record of a line: its octets, and when it is sound.
pub mod Line
pub mod Octets
pub mod Sound
pub mod Branch
pub mod Changes
pub mod Laws
