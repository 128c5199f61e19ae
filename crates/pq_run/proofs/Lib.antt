pub mod GeneratingLemmas
pub mod MeasuringLemmas
pub mod PrintingLemmas
pub mod RecordingLemmas
pub mod ReplayingLemmas
pub mod SelectionLemmas
mod StandardFacts
mod VerdictFacts
