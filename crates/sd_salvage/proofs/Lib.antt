pub mod PrinterLemmas
pub mod ReadLemmas
pub mod ReadableLemmas
pub mod SalvageLemmas
