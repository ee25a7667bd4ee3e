pub mod FieldLemmas
pub mod LayoutLemmas
pub mod ListedLemmas
pub mod LongestLemmas
pub mod OrderedLemmas
pub mod PutLemmas
pub mod RangeLemmas
pub mod RecordLemmas
