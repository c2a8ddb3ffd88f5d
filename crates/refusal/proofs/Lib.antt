-- What holds of the numbers of refusals.
pub mod Numbers
