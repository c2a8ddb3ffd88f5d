-- What the packets of an EAP-5G session come to on a line.
pub mod Session
