pub mod SettledLaws
pub mod WithinLaws
pub mod WorkedLaws
