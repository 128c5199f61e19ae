pub mod Cycles
pub mod GeneratedRecording
pub mod MeasuredRecording
pub mod RecordingLaws
