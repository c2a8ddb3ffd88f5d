-- The laws that the proofs of IKE steps share.
pub mod Holding
