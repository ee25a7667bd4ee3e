pub mod Conditions
pub mod Expressions
pub mod Printed
pub mod Queries
pub mod Statements
pub mod Words
