pub mod Limits
pub mod Moves
pub mod Placing
pub mod Receipt
pub mod Shelf
pub mod View
