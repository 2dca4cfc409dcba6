pub mod Finished
pub mod LeavingLaws
