pub mod Connections
pub mod Talks
