pub mod NextWord
pub mod PlainFunded
pub mod Reading
pub mod ReportText
pub mod Reported
