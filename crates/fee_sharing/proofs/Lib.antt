pub mod RowLaws
pub mod SearchLaws
pub mod ShareLaws
pub mod SharedLaws
pub mod SweepLaws
pub mod WeighLaws
