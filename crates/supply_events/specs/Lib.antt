pub mod EventLists
pub mod FirstStart
pub mod Queue
pub mod SupplyEvents
