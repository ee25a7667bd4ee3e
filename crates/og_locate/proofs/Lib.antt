pub mod BadLemmas
pub mod DeepLemmas
pub mod PieceLemmas
