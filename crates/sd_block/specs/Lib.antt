pub mod Fault
pub mod Framed
pub mod Head
pub mod Image
pub mod Laws
