use Rattle.std.proofs.Common.{◌≡◌, ◌*◌, take, min}
use Rattle.std.specs.Prelude.{sum_by}
use Rattle.fund_base.specs.declared.money.TheConstants.{MAX_MONEY}
use Rattle.tx_codec.specs.declared.tx.TxOut.{TxOut}
use Rattle.known_fees.proofs.worth.taken.Given as goal

abbrev pub invariant-loop-output : goal.invariant-loop-output
invariant-loop-output l = l.sum ≡ min (sum_by (λ (x : TxOut). x.value) (take l.output-index l.outputs)) (2 * MAX_MONEY)
