-- What the calls without a table answer.
pub mod Packets
