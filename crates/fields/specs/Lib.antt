-- What the readers of fields answer.
pub mod Read
