pub mod Passes
pub mod Rule
pub mod Seats
pub mod Steps
