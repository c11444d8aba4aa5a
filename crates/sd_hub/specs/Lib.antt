pub mod Claimed
pub mod Laws
pub mod Machines
pub mod Settles
pub mod Tickets
pub mod Worlds
