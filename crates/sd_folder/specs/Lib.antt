pub mod Meaning
pub mod Steps
pub mod Place
pub mod Fault
pub mod System
