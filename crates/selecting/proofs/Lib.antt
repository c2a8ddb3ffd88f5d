-- The laws of lent texts and of what is chosen.
pub mod Asked
pub mod Outcomes
pub mod Texts
