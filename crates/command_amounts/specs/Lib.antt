pub mod Amounts
pub mod Coins
pub mod Files
pub mod Lines
pub mod Signing
