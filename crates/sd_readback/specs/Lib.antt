pub mod Reading
pub mod Faults
pub mod HandsOver
pub mod Reader
pub mod Device
