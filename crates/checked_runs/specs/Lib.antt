pub mod Beside
pub mod Resumed
pub mod Summed
