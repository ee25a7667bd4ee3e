-- What the words of a command line mean.
pub mod Grammar
pub mod Said
pub mod Shape
