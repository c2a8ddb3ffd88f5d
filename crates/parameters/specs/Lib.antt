-- What AN-parameters are, and reading them one after another.
pub mod Laws
pub mod Parameters
pub mod Reading
