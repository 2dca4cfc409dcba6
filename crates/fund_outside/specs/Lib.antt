pub mod JobName
pub mod Jobs
pub mod Kept
pub mod MemKeeper
pub mod SureKeeper
