pub mod CountLemmas
pub mod PackedLemmas
pub mod PartLemmas
pub mod SessionLemmas
