pub mod AtStations
pub mod Found
pub mod Losing
pub mod Noted
pub mod Opening
pub mod Purging
pub mod View
