pub mod StageLemmas
pub mod NextLemmas
pub mod LabelLemmas
pub mod BodyLemmas
pub mod BatchLemmas
pub mod UnpackerLemmas
