pub mod AllowedLemmas
pub mod ConsoleLemmas
pub mod FrontLemmas
pub mod HeldLemmas
pub mod SharedLemmas
pub mod TakenLemmas
pub mod UnusedLemmas
