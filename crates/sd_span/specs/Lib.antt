pub mod JobMedia
pub mod Reading
pub mod Spans
