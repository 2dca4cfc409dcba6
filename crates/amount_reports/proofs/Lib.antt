pub mod Rows
pub mod Shown
pub mod SharedLaws
pub mod SweptLaws
pub mod WrittenLaws
