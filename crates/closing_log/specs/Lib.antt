pub mod Behind
pub mod Exact
pub mod Gives
pub mod Lines
pub mod Log
pub mod LogText
pub mod MarkWord
pub mod Reading
