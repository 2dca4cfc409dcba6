pub mod Forms
pub mod Outcome
pub mod Said
pub mod Stops
pub mod Table
pub mod Weighed
