pub mod RowShares
pub mod Searching
pub mod Shares
pub mod Sweep
