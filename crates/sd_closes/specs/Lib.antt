pub mod Pieces
pub mod Stands
