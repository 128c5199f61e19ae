pub mod Written
pub mod Moment
pub mod Printed
pub mod Time
pub mod Tick
