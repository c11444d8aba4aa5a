pub mod JobMediaLemmas
pub mod ReadingLemmas
pub mod SpanLemmas
pub mod TextLemmas
