pub mod Session
pub mod Spooling
pub mod Sending
