pub mod ChoiceLemmas
pub mod FieldLemmas
pub mod IndexLemmas
pub mod ZipLemmas
