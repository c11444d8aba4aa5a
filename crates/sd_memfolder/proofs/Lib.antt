pub mod Places
pub mod Calls
pub mod Stops
pub mod Folders
