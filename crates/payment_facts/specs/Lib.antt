pub mod AnyCoin
pub mod LeftOut
pub mod Pendings
