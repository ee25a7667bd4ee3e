pub mod AroundLemmas
pub mod BoundLemmas
pub mod SameLemmas
pub mod StayLemmas
