pub mod Asked
pub mod Evidence
pub mod Outcome
pub mod Statuses
pub mod Stops
pub mod Words
