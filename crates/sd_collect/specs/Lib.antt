pub mod Collect
pub mod Whole
