pub mod Asked
pub mod Endings
pub mod Inputs
pub mod Outcome
pub mod Results
pub mod Statuses
pub mod Stops
