pub mod Broken
pub mod Fields
pub mod First
pub mod Order
