-- A child made, and the events that take children away.
pub mod Events
pub mod Made
