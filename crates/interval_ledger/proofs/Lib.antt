mod AddLaws
mod KnownStep
mod EarliestStep
mod OutboxLaws
mod PlaceRises
mod SegmentLaws
mod WatchLaws
pub mod ItemLaws
pub mod WindowLaws
pub mod KnownLaws
pub mod ReleaseLaws
pub mod StepLaws
pub mod FinishLaws
pub mod OpenLaws
pub mod FedLaws
pub mod MergeLaws
pub mod StopLaws
pub mod EarliestLaws
pub mod FlagLaws
pub mod HeadLaws
pub mod FeedLaws
pub mod NeedLaws
pub mod PostedLaws
pub mod MergingLaws
pub mod ReadingLaws
pub mod CountLaws
pub mod HeadCountLaws
pub mod KeptLaws
pub mod StateLaws
pub mod JoinLaws
pub mod BasicStateLaws
pub mod LedgerLaws
pub mod FreshLaws
pub mod TickLaws
pub mod GivenLaws
