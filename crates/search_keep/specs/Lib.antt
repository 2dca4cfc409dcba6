pub mod Reading
pub mod Reported
pub mod Resumed
pub mod SavedText
pub mod Walks
