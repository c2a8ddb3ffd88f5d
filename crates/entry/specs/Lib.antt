-- What one line of the configuration text says.
pub mod Pieces
pub mod Field
pub mod Entry
