pub mod Refusals
pub mod StatusText
