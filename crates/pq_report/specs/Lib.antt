pub mod ReportText
pub mod ShownSecond
pub mod ReportReading
pub mod Summary
