-- What the words of `ongq-sql` mean.
pub mod Asked
pub mod Shape
