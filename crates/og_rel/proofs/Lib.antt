pub mod AlgebraLemmas
pub mod BlockLemmas
pub mod PairLemmas
pub mod PermutationLemmas
pub mod PlaceLemmas
pub mod PresentLemmas
pub mod RisingLemmas
mod ShareLemmas
pub mod WorkerLemmas
