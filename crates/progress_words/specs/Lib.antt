pub mod PassView
pub mod Rule
pub mod Seat
pub mod Shown
pub mod Step
pub mod Turn
pub mod Words
