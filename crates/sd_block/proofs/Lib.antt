pub mod HeaderLemmas
pub mod ImageLemmas
