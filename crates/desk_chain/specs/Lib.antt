pub mod PendingTxids
