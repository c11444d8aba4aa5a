pub mod CollectLemmas
pub mod WholeLemmas
