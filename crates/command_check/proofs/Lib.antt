pub mod AskedLaws
pub mod EndsLaws
pub mod LineLaws
pub mod MadeLaws
pub mod OutcomeLaws
pub mod ReplacedLaws
pub mod StopLaws
