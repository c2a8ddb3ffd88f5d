-- The table of records.
pub mod Table
pub mod Slots
pub mod Laws
