pub mod Changed
pub mod Core
pub mod GivenItems
pub mod MeasuredOf
pub mod Measurement
pub mod Phases
pub mod Play
pub mod SoundCore
