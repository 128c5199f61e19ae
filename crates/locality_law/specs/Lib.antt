pub mod Locality
pub mod Posted
