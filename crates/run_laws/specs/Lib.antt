pub mod AtHand
pub mod Sections
pub mod Tries
