pub mod Stage
pub mod Unpacking
pub mod Damage
pub mod Batch
