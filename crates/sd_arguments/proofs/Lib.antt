pub mod BuildingLemmas
pub mod LineLemmas
pub mod NameLemmas
pub mod GivenLemmas
pub mod ValueLemmas
pub mod DaemonLemmas
pub mod ToolLemmas
