pub mod Places
pub mod Changes
pub mod Room
pub mod Exits
pub mod Stops
