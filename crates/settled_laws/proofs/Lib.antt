pub mod ListLaws
pub mod MovedLaws
pub mod RiseLaws
pub mod PrefixRuns
pub mod NextRun
pub mod ShortLaws
pub mod TenLaws
pub mod TwoLaws
pub mod TickLaws
pub mod BasicLaws
pub mod BuildLaws
pub mod FewRuns
pub mod FewBasics
pub mod IntervalLaws
pub mod CutLaws
mod IntervalFacts
pub mod SpacedLaws
pub mod ContinueLaws
pub mod SettledEvents
pub mod TouchLaws
pub mod SettledLaws
pub mod EarlyLaws
pub mod TouchedLaws
pub mod WindowBounds
pub mod EventLaws
mod EventFacts
