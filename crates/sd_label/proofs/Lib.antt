pub mod AnswerLemmas
pub mod LabelLemmas
pub mod TextLemmas
pub mod CuttingLemmas
