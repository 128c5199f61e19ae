mod StandardFacts
pub mod SumLaws
pub mod ShortLaws
pub mod PairLaws
pub mod FollowLaws
pub mod SegmentLaws
pub mod TenStepLaws
pub mod TenSumLaws
pub mod MinuteLaws
pub mod TensLaws
pub mod TwoHourStepLaws
pub mod TwoHourSumLaws
pub mod AggregatorLaws
pub mod WholeListLaws
