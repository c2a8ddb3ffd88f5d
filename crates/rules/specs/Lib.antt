-- The rules of document 01 as one definition, `run`, and what is claimed of it.
pub mod Call
pub mod Answer
pub mod Phases
pub mod Life
pub mod View
pub mod Refusals
pub mod Listing
pub mod Run
pub mod Histories
pub mod OnSlots
pub mod After
pub mod Claims
