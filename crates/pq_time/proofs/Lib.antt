mod StandardFacts
pub mod FieldLemmas
pub mod WrittenLemmas
pub mod DayLemmas
pub mod PlaceLaws
pub mod TickLaws
pub mod PrintedLemmas
