pub mod BinaryRecord
pub mod Channel
pub mod DatReader
pub mod Progress
pub mod ReadBack
pub mod Run
pub mod Samples
