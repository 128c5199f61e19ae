pub mod ChangedLaws
pub mod CutLaws
pub mod GivenLaws
pub mod LaneLemmas
pub mod LeastLaws
pub mod OrderedItems
pub mod PlayLaws
pub mod ReadLaws
pub mod SoundLaws
mod StandardFacts
pub mod StepLaws
pub mod TakeLaws
