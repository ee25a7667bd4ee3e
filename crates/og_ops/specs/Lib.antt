pub mod Days
pub mod Each
pub mod Keyed
pub mod Lending
pub mod Members
pub mod Plain
pub mod Wanted
