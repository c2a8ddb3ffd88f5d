-- The lists of networks and addresses that answers lend.
pub mod Lists
pub mod Held
