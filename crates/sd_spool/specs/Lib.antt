pub mod Meaning
pub mod Call
pub mod MemSpool
pub mod Job
pub mod Opened
pub mod FileSpool
