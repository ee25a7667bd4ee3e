pub mod DropLemmas
pub mod EntryLemmas
pub mod FileLemmas
pub mod OutlineLemmas
pub mod StatementLemmas
