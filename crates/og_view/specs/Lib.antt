pub mod Again
pub mod Changes
pub mod Parts
pub mod Placed
pub mod Plans
pub mod Rows
pub mod Tables
pub mod Views
