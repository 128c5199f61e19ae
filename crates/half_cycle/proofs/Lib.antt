mod StandardFacts
pub mod SquareLaws
pub mod WindowLaws
pub mod WindowBounds
