pub mod Fields
pub mod Memory
pub mod Repeats
pub mod Rules
pub mod Tree
