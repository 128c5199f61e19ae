pub mod BoundLaws
pub mod HoldLaws
pub mod ListLaws
pub mod OpenLaws
pub mod ReadLaws
pub mod SeatLaws
pub mod ShownLaws
