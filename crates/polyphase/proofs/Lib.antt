pub mod CountLaws
pub mod LatestLaws
pub mod ConditionLaws
pub mod ApartLaws
pub mod PolyLaws
pub mod WholeListLaws
pub mod MovedLaws
pub mod MergedLaws
pub mod MergeStep
pub mod CollectLaws
mod StandardFacts
