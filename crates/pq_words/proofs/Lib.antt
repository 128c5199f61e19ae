pub mod FirstLaws
pub mod PrefixLaws
pub mod SortedLaws
pub mod StepLaws
pub mod SuccessorLaws
pub mod WorkedSignal
mod StandardFacts
pub mod ReadingLemmas
