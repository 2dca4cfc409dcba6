pub mod Asked
pub mod Command
pub mod Outcome
pub mod Statuses
