pub mod Torn
pub mod Known
pub mod Parts
pub mod Drive
