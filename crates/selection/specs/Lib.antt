-- Choosing a network and a gateway, S1 to S4: which network is asked for, when selection stops, and the name that is asked.
pub mod Stop
pub mod Selection
pub mod Networks
pub mod Stops
pub mod Query
