pub mod Lines
pub mod Daemon
pub mod Tool
pub mod Building
