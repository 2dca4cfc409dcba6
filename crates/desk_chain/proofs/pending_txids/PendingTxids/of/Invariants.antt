use Rattle.std.proofs.Common.{take}
use Rattle.desk_chain.specs.PendingTxids.{AreTxidsOf}
use Rattle.desk_chain.proofs.pending_txids.PendingTxids.of.Given as goal

abbrev pub invariant-loop-tx : goal.invariant-loop-tx
invariant-loop-tx l = AreTxidsOf (take l.tx-index l.pending) l.all
