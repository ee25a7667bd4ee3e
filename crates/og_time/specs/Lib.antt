pub mod FixedOperations
pub mod OldTexts
pub mod Period
pub mod Point
pub mod PointOrder
