pub mod Fault
pub mod FirstPair
pub mod Keys
pub mod PartialTransaction
pub mod Psbt
pub mod Reading
pub mod Text
pub mod Truncation
