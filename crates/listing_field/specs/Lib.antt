-- Texts that are stored.
pub mod Put
