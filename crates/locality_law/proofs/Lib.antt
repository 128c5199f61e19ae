pub mod BasicAgreement
pub mod EventAgreement
pub mod LaneAgreement
pub mod LocalityLaw
pub mod PostedLaws
