pub mod Asked
pub mod Files
pub mod Names
pub mod Outcome
pub mod Payment
pub mod Statuses
pub mod Stops
pub mod Words
