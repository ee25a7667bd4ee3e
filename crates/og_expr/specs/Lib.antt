pub mod Bounds
pub mod ColumnTests
