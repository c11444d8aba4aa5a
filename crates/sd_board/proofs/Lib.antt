pub mod BoardLemmas
pub mod LineLemmas
pub mod NameLemmas
pub mod SendLemmas
pub mod SlotLemmas
pub mod ViewLemmas
