mod Drives
pub mod RefLemmas
