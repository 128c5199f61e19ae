pub mod Feeding
pub mod InputFile
pub mod Judged
pub mod Parts
pub mod Telling
pub mod TopCall
pub mod Verdict
