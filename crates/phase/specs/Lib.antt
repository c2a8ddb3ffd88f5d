-- What a line does, with the data of its phase, in octets, and where a phase stands.
pub mod Facts
pub mod Stage
pub mod Chosen
pub mod Awaited
pub mod Phase
pub mod Branch
pub mod Laws
pub mod Standing
