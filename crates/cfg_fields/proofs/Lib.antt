pub mod LineLemmas
pub mod ReadingLaws
pub mod FaultLines
pub mod WrittenFacts
pub mod FieldTexts
pub mod ReadBackNumbers
pub mod GrammarFields
mod StandardFacts
