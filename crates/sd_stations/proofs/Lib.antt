pub mod CloseLemmas
pub mod SendLemmas
pub mod ShutLemmas
