pub mod Names
pub mod Lasting
