pub mod Jobs
pub mod Leaving
pub mod Statuses
pub mod Stops
