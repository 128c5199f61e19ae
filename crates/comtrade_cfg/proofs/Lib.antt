pub mod ChannelLemmas
pub mod LinesRead
pub mod ConfigurationBounds
pub mod PrintLemmas
pub mod TwoIntervalsCfg
mod StandardFacts
mod OtherFacts
pub mod ValueLemmas
pub mod SelectionLaws
pub mod ReadBackText
pub mod CanonicalFacts
pub mod ReadBackFacts
pub mod ReadBackMoments
pub mod ReadBackRate
pub mod ReadBackLines
pub mod ReadBack
pub mod GrammarPlaces
pub mod GrammarLines
pub mod GrammarZone
pub mod GrammarFound
pub mod GrammarOnly
pub mod GrammarLaws
pub mod LocalReading
pub mod FaultOrderLaws
