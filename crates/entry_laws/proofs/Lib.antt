pub mod CoinListFaults
pub mod EntryFaults
pub mod ListFaults
pub mod ObjectFaults
pub mod PairFaults
pub mod RequestFaults
pub mod ValueFaults
