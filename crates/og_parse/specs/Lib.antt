pub mod Bytes
pub mod Depth
pub mod Pieces
pub mod Script
pub mod StatementReader
pub mod Statements
pub mod Tokens
pub mod Whole
