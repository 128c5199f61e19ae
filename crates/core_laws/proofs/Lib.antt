pub mod EndLaws
pub mod LeastLaneLaws
pub mod MeasuredLaws
pub mod OwnLoadLaws
pub mod SessionLaws
mod StandardFacts
