pub mod Commands
pub mod LiveTexts
pub mod Kept
pub mod Reading
pub mod Scripts
pub mod Stops
