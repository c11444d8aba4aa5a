pub mod CommandLemmas
pub mod ReadingLemmas
pub mod TakesLemmas
pub mod AgainLemmas
pub mod LineLemmas
