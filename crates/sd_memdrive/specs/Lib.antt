pub mod Volumes
pub mod ChangeLog
pub mod Drive
