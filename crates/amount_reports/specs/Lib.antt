pub mod Read
pub mod Reading
pub mod SweptText
pub mod SharedText
