pub mod Body
pub mod RecordParts
pub mod Packing
pub mod KeptPacker
