-- The holds of a line in octets.
pub mod Holds
pub mod Keys
pub mod Laws
pub mod Listed
