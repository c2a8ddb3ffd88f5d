-- What numbers are as octets, and the vocabulary that the other crates' definitions share.
pub mod Digits
pub mod Part
pub mod Search
pub mod Row
pub mod Refusal
pub mod Laws
