pub mod Reading
pub mod Run
pub mod Noted
pub mod Alone
pub mod Judge
