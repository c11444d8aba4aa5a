pub mod Call
pub mod Change
pub mod Files
pub mod Folder
pub mod Memory
