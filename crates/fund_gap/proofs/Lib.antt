pub mod GapLaws
