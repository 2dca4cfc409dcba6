pub mod ChainLaws
pub mod CoinLaws
pub mod NameLaws
pub mod PutLaws
pub mod WholeLaws
