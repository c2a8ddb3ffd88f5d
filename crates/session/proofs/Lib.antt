-- The laws that the proofs of a session's steps share.
pub mod Turns
pub mod Packets
pub mod Replies
