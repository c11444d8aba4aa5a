pub mod Console
pub mod Laws
pub mod Port
