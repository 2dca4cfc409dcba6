pub mod ParentLaws
pub mod ShownLaws
