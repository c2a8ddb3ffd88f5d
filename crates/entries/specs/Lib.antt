-- What the readers of entries answer.
pub mod Branch
