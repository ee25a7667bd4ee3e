pub mod ColumnLemmas
pub mod FoundLemmas
pub mod NumberLemmas
pub mod RemovedLemmas
pub mod SameLemmas
pub mod SieveLemmas
