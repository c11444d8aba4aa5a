pub mod Label
pub mod Cutting
