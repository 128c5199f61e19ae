pub mod Commands
pub mod Simple
pub mod Values
