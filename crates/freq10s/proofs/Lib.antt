pub mod CycleLaws
pub mod IntervalLaws
pub mod ReadingLaws
mod StandardFacts
