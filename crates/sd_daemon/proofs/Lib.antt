mod LockLemmas
mod NamedLemmas
mod ServeLemmas
pub mod SetupLemmas
pub mod StartLemmas
pub mod TableLemmas
pub mod TalkLemmas
