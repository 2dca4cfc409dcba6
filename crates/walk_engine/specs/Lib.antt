pub mod Best
pub mod Cases
pub mod Search
pub mod SkipRuns
pub mod Skipping
pub mod Stack
pub mod Transitions
