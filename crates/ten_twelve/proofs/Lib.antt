mod StandardFacts
pub mod StepLemmas
pub mod NumberLemmas
pub mod ChopLemmas
pub mod PendingLaws
pub mod BeginLaws
pub mod ChopperLaws
pub mod WholeListLaws
