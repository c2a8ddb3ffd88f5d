-- What a choice leaves of a whole line.
pub mod Finished
