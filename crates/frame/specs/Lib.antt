-- What the calls on the table share at their entry, and what they return.
pub mod Entering
pub mod Returned
