pub mod CfgLaws
pub mod DatLaws
