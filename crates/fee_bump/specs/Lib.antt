pub mod Bump
pub mod Faults
pub mod Meant
