pub mod Decimals
pub mod Laws
pub mod LawsOfNumbers
pub mod Lists
pub mod OutpointLaws
pub mod Repeat
pub mod Spellings
