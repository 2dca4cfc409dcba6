pub mod FrontLaws
pub mod WideLaws
