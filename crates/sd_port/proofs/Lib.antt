pub mod CancelLemmas
pub mod ConsoleLemmas
pub mod DeedLemmas
pub mod PortLemmas
