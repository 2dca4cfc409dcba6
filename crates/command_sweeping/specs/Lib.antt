pub mod AsAsked
pub mod Fees
pub mod Run
pub mod Sweeps
pub mod Table
