pub mod DayLemmas
pub mod EachLemmas
pub mod KeyLemmas
pub mod MemberLemmas
pub mod MetLemmas
pub mod RowLemmas
