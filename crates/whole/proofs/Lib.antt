-- What a step with a name buffer answers.
pub mod Naming
