pub mod FragmentLemmas
pub mod HeaderLemmas
pub mod RecordLemmas
