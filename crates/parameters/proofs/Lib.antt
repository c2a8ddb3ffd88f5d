-- The laws of the walk over AN-parameters, of what whole ones are in their block, and of the reader that walks.
pub mod Exact
pub mod Onward
pub mod Walk
