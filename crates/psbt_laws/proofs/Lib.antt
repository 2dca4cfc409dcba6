pub mod FieldMaps
pub mod GlobalForms
pub mod Keys
pub mod Pairs
pub mod Payments
pub mod Steps
pub mod Whole
