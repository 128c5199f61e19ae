pub mod PolyphaseEvent
pub mod Latest
pub mod Poly
pub mod WholeList
