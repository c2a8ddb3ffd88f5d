-- The text of one tenant.
pub mod Listed
pub mod Branch
