pub mod NameLaws
pub mod PayLaws
