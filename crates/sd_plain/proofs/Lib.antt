pub mod TalkLemmas
pub mod WorldLemmas
