pub mod Lines
pub mod Printer
pub mod Readable
pub mod Salvage
