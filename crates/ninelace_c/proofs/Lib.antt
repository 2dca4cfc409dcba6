pub mod HandingLaws
pub mod SecondLaws
pub mod Telling
