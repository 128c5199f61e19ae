pub mod BasicLemmas
pub mod BasicOrder
pub mod CutLaws
pub mod FrontLemmas
pub mod FrontOrder
pub mod GroupLemmas
pub mod ItemLemmas
pub mod MergedLemmas
pub mod NeighbourLaws
pub mod PlaceLaws
pub mod RangeLaws
pub mod ResultLaws
pub mod RunOrder
pub mod TouchLemmas
pub mod WalkLemmas
mod StandardFacts
