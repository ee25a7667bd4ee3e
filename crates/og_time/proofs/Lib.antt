pub mod CutLemmas
pub mod OldTexts
pub mod PeriodTexts
pub mod PointOrder
pub mod PointTexts
pub mod PointWriting
pub mod PredicateDays
