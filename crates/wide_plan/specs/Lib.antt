pub mod Asked
pub mod Claims
pub mod LogText
pub mod Payments
pub mod Rows
pub mod Run
pub mod Turns
pub mod Walked
