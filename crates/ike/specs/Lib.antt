-- The events that come with numbers alone and change only the phase.
pub mod Events
