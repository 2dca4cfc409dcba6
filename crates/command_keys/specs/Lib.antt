pub mod Asked
pub mod Keyed
pub mod Results
pub mod Stops
pub mod Words
