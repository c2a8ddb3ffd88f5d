-- What a configuration text says.
pub mod Lines
pub mod Settings
pub mod Places
