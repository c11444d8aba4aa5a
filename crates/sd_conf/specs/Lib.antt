pub mod Check
pub mod Conf
pub mod FirstFault
pub mod Keys
pub mod Limits
pub mod Place
pub mod Told
pub mod Values
