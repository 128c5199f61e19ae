pub mod DistinctKeys
pub mod TwelveTenMinutes
