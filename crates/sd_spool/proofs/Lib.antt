pub mod Entries
pub mod Files
pub mod Others
pub mod Reading
