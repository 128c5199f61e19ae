pub mod CountLemmas
pub mod DisturbanceLemmas
pub mod RecordLemmas
pub mod RecordingLemmas
pub mod SampleLemmas
pub mod StandardFacts
