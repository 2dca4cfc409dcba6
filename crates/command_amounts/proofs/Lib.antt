pub mod AmountLaws
pub mod CoinLaws
pub mod FileLaws
pub mod LineLaws
pub mod SignLaws
