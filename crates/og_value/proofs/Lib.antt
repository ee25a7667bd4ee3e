pub mod CellTexts
pub mod RowLemmas
pub mod SightLemmas
pub mod SpellingLemmas
pub mod WordLemmas
