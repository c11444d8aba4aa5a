pub mod BodyLemmas
pub mod FrameLemmas
pub mod KeptLemmas
pub mod PackedLabelLemmas
pub mod PackingLemmas
pub mod TightLemmas
