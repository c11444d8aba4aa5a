pub mod Changes
pub mod Names
pub mod Slots
pub mod Lines
pub mod Board
pub mod Opening
