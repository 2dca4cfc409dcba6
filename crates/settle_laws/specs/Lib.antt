pub mod Coins
pub mod Worked
