-- The laws that the proofs of a tunnel's steps share.
pub mod Making
