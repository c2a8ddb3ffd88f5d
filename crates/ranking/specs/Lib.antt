-- How the code finds the best record.
pub mod Branch
