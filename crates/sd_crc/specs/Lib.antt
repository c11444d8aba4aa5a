pub mod Crc32
pub mod Sums
