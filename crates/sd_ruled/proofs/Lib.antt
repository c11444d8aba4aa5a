pub mod Counts
pub mod Joins
pub mod Pieces
pub mod Steps
pub mod Turns
pub mod Views
