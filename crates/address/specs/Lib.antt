-- When an address is permitted.
pub mod Address
