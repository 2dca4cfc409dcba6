pub mod Claims
pub mod Feeding
pub mod Reads
pub mod Sections
