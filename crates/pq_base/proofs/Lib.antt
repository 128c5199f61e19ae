pub mod AskedLemmas
pub mod CauseLemmas
pub mod CutLemmas
pub mod DecimalLemmas
pub mod DigitsLemmas
pub mod FileIndices
pub mod RoundLemmas
mod StandardFacts
