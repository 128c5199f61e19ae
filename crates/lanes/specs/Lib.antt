pub mod Lane
pub mod LaneLaw
