pub mod ReadingLemmas
pub mod RunLemmas
pub mod OneLemmas
