pub mod Shelf
pub mod Meaning
pub mod Laws
