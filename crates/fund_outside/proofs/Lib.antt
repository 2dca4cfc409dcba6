pub mod JobLaws
pub mod NameLaws
