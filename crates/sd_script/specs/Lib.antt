pub mod Command
pub mod Grammar
pub mod Reading
