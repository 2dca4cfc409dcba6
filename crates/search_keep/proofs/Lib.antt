pub mod MarkLaws
pub mod ResumedLaws
pub mod StepLaws
pub mod TextLaws
pub mod ToldLaws
pub mod WrittenLaws
