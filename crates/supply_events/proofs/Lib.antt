pub mod NextLemmas
pub mod EventLemmas
pub mod ThereLemmas
