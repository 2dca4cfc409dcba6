pub mod BlockLaws
pub mod ChainLaws
pub mod ShelfLaws
pub mod TxidLaws
