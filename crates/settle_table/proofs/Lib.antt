pub mod FileLaws
pub mod FormLaws
pub mod HexLaws
pub mod OnlyLaws
pub mod PieceLaws
pub mod StopLaws
pub mod WeighedLaws
