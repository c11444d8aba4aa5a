pub mod Lines
pub mod Replies
pub mod Requests
pub mod Status
pub mod Told
pub mod Watched
