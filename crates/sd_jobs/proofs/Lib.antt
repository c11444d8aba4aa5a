pub mod EachLemmas
pub mod EndLemmas
