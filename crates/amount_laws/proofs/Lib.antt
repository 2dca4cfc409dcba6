pub mod LineLaws
pub mod SharedLaws
pub mod SweptLaws
