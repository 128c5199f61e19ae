pub mod First
pub mod Steps
pub mod Sorted
pub mod Successors
pub mod Text
pub mod Magnitude
pub mod FirstFault
pub mod Samples
