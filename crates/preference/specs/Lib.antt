-- What a configuration says of networks.
pub mod Preference
pub mod Laws
