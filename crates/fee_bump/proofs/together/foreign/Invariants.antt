use Rattle.std.proofs.Common.{◌≡◌, take, None}
use Rattle.known_fees.specs.Worth.{first_foreign}
use Rattle.fee_bump.specs.Faults.{points_of}
use Rattle.fee_bump.proofs.together.foreign.Given as goal

abbrev pub invariant-loop-tx : goal.invariant-loop-tx
invariant-loop-tx l = first_foreign l.book l.txs (points_of (take l.tx-index l.txs)) ≡ None
