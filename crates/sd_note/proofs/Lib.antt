pub mod FieldLemmas
pub mod NoteLemmas
