pub mod Place
pub mod Order
pub mod Named
pub mod Reading
