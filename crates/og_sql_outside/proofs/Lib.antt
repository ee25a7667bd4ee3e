pub mod Equations
pub mod FirstLemmas
