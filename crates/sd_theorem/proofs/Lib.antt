pub mod Closed
mod ClosedLemmas
pub mod Deeds
mod DeviceLemmas
mod FoundLemmas
pub mod Fresh
pub mod Head
pub mod Noted
mod PlacedLemmas
pub mod Read
mod ReportLemmas
pub mod Returns
pub mod Runs
mod SayLemmas
mod SpanLemmas
pub mod Stood
pub mod Stops
pub mod ThreadStops
pub mod Threads
mod ToldCloses
mod ToldLemmas
pub mod Unpurged
