pub mod QuoteLemmas
