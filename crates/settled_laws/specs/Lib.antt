pub mod FewIntervals
pub mod SettledIntervals
pub mod Greatest
pub mod Touch
pub mod SettledEvents
