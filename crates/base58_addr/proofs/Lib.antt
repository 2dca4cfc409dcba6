pub mod Addresses
pub mod Halves
pub mod Judged
pub mod Letters
pub mod Numbers
pub mod Rebased
pub mod Scripts
pub mod Sealed
