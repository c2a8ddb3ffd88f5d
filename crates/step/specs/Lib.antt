-- What every step on a line shares.
pub mod Step
pub mod Kinds
pub mod Laws
