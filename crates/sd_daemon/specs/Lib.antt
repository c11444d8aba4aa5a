pub mod Address
pub mod Adopting
pub mod Locks
pub mod Notes
pub mod Plan
pub mod Serve
pub mod Setup
pub mod Takeover
