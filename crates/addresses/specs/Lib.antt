-- Addresses in octets.
pub mod Addresses
pub mod Keys
pub mod Laws
