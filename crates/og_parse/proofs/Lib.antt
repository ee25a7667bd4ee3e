pub mod Lenient
pub mod Parts
pub mod Scripts
pub mod StatementRules
