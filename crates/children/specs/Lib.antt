-- The child associations of a line in octets.
pub mod Children
pub mod Laws
pub mod Listed
