pub mod Call
pub mod Kinds
pub mod Plan
