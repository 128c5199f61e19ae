mod StandardFacts
pub mod RuleLaws
pub mod BoundaryLaws
