pub mod ExtractLemmas
pub mod ListingLemmas
pub mod PathLemmas
pub mod TextLemmas
