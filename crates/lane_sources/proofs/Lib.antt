pub mod LaneLemmas
pub mod SpanLaws
