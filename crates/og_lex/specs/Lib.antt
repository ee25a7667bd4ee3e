pub mod Bytes
pub mod Faults
pub mod Front
pub mod Grammar
pub mod Endings
