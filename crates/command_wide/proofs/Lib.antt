pub mod EndedLaws
pub mod FinishLaws
pub mod OutcomeLaws
pub mod StopLaws
