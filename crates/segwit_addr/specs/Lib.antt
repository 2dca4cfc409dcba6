pub mod Address
pub mod Bech32
pub mod Judging
pub mod Reading
pub mod Regrouping
