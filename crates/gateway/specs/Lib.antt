-- Choosing an address of the gateway.
pub mod Gateway
pub mod Laws
