pub mod OwnLoad
pub mod RecordedCore
