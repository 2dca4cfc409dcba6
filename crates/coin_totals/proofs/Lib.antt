pub mod ClassLaws
pub mod OnceLaws
