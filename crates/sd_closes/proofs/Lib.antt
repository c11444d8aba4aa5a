pub mod Pieces
pub mod Taken
pub mod Told
