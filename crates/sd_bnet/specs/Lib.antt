pub mod Due
pub mod Feeder
pub mod Packet
pub mod Step
pub mod Stream
