-- The rules on examples: document 01's starred ones, and others for each of its sections.
pub mod Computed
pub mod Cases
pub mod LifeExamples
pub mod PhaseExamples
pub mod SelectionExamples
pub mod RefusalExamples
pub mod FormExamples
pub mod PacketExamples
pub mod HoldExamples
pub mod SoundExamples
pub mod TableExamples
pub mod LayoutExamples
pub mod Starred
pub mod Examples
