-- The laws that the proofs of this crate share.
mod Events
mod Timed
mod Unheld
