pub mod BoundLemmas
pub mod ColumnLemmas
pub mod PartLemmas
pub mod PointComparisons
