pub mod Reading
pub mod WideText
