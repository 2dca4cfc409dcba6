pub mod Signed
pub mod Maps
