pub mod AllWindows
pub mod HalfCycleWindow
pub mod Windows
