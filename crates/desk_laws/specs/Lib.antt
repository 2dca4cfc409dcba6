pub mod Claimed
pub mod Opened
pub mod Refused
