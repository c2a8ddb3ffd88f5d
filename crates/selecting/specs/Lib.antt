-- What selection comes to, and what is read of a lent text.
pub mod Lent
pub mod Selects
