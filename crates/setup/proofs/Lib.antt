-- The laws that the proofs of this crate share.
mod Addressed
mod Finishing
