pub mod Better
pub mod Reserve
pub mod Refusals
