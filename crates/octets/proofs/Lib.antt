-- The laws of the definitions of specs/, for the proofs of this crate and of those above it.
pub mod Counts
pub mod Digits
pub mod Eight
pub mod Elements
pub mod Fields
pub mod Firsts
pub mod Octets
pub mod Parts
pub mod Patches
pub mod Refusals
pub mod Rows
pub mod Search
pub mod Splices
pub mod Stands
pub mod Sublists
