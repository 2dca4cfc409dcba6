pub mod Fee
pub mod Output
pub mod Terms
