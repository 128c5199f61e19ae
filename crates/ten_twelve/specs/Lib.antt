pub mod Run
pub mod Chopper
pub mod Unfinished
pub mod WholeList
