pub mod Rows
pub mod Sends
pub mod Shows
