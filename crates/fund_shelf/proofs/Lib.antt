pub mod Asking
pub mod Counts
pub mod FrameLaws
pub mod Outside
pub mod Parts
