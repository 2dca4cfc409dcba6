pub mod AskedLaws
pub mod EndedLaws
pub mod FinishLaws
pub mod OutcomeLaws
pub mod PayLaws
pub mod StopLaws
