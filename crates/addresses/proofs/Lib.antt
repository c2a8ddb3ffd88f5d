-- The laws that the proofs of this crate share.
pub mod Keys
pub mod RoundTrip
pub mod Versions
pub mod Widths
