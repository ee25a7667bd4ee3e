pub mod Algebra
pub mod Pairs
pub mod Places
pub mod Relations
pub mod Shares
