pub mod Files
pub mod Nothing
pub mod Scripts
pub mod Statuses
pub mod Words
