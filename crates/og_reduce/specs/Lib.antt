pub mod Columns
pub mod Numbers
pub mod RangeTests
pub mod Sieves
