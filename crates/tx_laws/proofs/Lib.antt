pub mod Cuts
pub mod Forms
pub mod Judged
pub mod Leaves
pub mod Parts
pub mod Witnesses
