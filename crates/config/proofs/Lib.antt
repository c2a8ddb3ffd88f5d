-- Where the lines of a text end.
pub mod Ends
