use Rattle.std.proofs.Common.{◌∙◌, ℕ, Option, None, ap}
use Rattle.std.specs.Map.{lookup}
use Rattle.fund_base.specs.Outpoints.{same_outpoint}
use Rattle.tx_codec.specs.declared.tx.TxIn.{TxIn}
use Rattle.payment_states.specs.Least.{lesser}
use Rattle.payment_states.proofs.LeastSteps.{least_more}
use Rattle.payment_states.proofs.replaced.nearest_of.Goals as goal

pub loop-input-preserved : goal.loop-input-preserved
loop-input-preserved c =
    let f : TxIn → Option ℕ = λ i. lookup (same_outpoint i.prev) c.args.nearest.now.entries in
    c.lesser-least.ensures
    ∙ (λ k. lesser (c.loop-input.invariant k) ((c.copied.ensures ∙ c.get.ensures.value ∙ ap f c.input-item.is) k))
    ∙ least_more f None c.args.inputs.now c.loop-input.input-index c.input-item.result c.loop-input-test.true
