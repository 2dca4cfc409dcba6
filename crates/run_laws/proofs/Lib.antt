pub mod EndingLaws
pub mod HandLaws
pub mod OrderLaws
pub mod SearchedLaws
