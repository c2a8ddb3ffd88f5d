-- What the functions of the text's reader answer.
pub mod Section
