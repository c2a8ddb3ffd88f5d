-- What the timer octet says.
pub mod Timer
