pub mod PairLaws
pub mod EventStarts
pub mod NumberLaws
pub mod BasicRuns
pub mod TickPairs
pub mod GroupLaws
pub mod TwoHourLaws
pub mod ItemLists
pub mod TwelveLaws
pub mod MergedOrder
pub mod KeyLaws
mod StandardFacts
