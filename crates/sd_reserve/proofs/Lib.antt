pub mod FirstLemmas
pub mod OrderLemmas
