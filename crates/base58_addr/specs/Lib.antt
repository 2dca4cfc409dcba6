pub mod Address
pub mod Base58
pub mod Judging
pub mod Reading
pub mod Rebasing
