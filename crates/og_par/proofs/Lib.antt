pub mod PartLemmas
pub mod PhaseLemmas
