pub mod Shelves
pub mod Torn
pub mod Filling
pub mod Changing
pub mod Cutting
