-- What EAP-5G packets say.
pub mod Packet
pub mod Branch
