pub mod Backs
pub mod Listed
