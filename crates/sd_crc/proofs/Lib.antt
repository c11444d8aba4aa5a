pub mod BitSteps
pub mod Sparse
pub mod TableFacts
pub mod Effects
pub mod SumSteps
pub mod Blocks
pub mod Crc32Facts
pub mod Powers
