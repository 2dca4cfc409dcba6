use Rattle.std.proofs.Common.{◌≡◌, ◌≤◌, ◌*◌, take}
use Rattle.std.specs.Prelude.{sum_by}
use Rattle.fund_base.specs.declared.money.TheConstants.{MAX_MONEY}
use Rattle.known_fees.specs.Worth.{fee_in}
use Rattle.fee_bump.proofs.together.fees_in.Given as goal

abbrev pub invariant-loop-tx : goal.invariant-loop-tx
invariant-loop-tx l = (l.fees ≡ sum_by (fee_in l.book l.txs) (take l.tx-index l.txs)) × (l.fees ≤ MAX_MONEY * l.tx-index)
