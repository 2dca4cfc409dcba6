use Rattle.std.proofs.Common.{◌≤◌, sym, subst}
use Rattle.std.specs.Prelude.{sum_by}
use Rattle.tx_codec.specs.Transaction.{Transaction}
use Rattle.tx_codec.specs.declared.tx.TxOut.{TxOut}
use Rattle.fee_bump.proofs.together.fees_in.Goals as goal

pub fee_in-requires-clause-money : goal.fee_in-requires-clause-money
fee_in-requires-clause-money c =
    subst (λ (t : Transaction). sum_by (λ (x : TxOut). x.value) t.outputs ≤ 2_100_000_000_000_000) (sym c.tx-item.is) (c.requires.money c.loop-tx.tx-index c.tx-item.result c.loop-tx-test.true)
