-- What texts are as octets, and numbers as texts.
pub mod Text
pub mod Laws
