pub mod LaneSource
pub mod LaneSources
pub mod Sampler
