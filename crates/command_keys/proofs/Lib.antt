pub mod AnswerLaws
pub mod StopLaws
pub mod TextLaws
