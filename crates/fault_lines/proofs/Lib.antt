pub mod KindLaws
pub mod LineLaws
pub mod WordLaws
