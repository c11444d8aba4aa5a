pub mod Desk
pub mod Next
