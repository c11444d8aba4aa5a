pub mod Lookups
pub mod RunLemmas
