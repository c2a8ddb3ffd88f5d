-- The laws of selection, for the claims and for the proofs of the code over it.
pub mod Asked
pub mod Choices
pub mod Ends
