pub mod Known
pub mod Outlines
