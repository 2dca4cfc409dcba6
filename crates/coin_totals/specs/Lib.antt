pub mod ByPlace
pub mod Classes
pub mod Totals
