-- How NAS responses are written.
pub mod Response
pub mod Laws
