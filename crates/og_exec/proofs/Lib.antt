pub mod AnswerLemmas
pub mod KeyLemmas
pub mod MatchLemmas
pub mod NodeLemmas
pub mod ShapeLemmas
pub mod SpanLemmas
