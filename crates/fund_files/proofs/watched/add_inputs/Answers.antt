use Rattle.std.proofs.Common.{◌∙◌, ◌||◌, Bool, true, cond, take, get_or, sym, ap}
use Rattle.std.proofs.lemmas.List.Folds.{list_any_more}
use Rattle.indexmap.specs.IndexSet.{contains}
use Rattle.fund_base.specs.Outpoints.{same_outpoint}
use Rattle.tx_codec.specs.declared.tx.TxIn.{TxIn}
use Rattle.coin_book.specs.Spends.{has_input}
use Rattle.fund_files.proofs.SetLaws.{join, none_more}
use Rattle.fund_files.proofs.watched.add_inputs.Goals as goal

pub loop-input-init : goal.loop-input-init
unfolding has_input
loop-input-init c = λ o. none_more (contains same_outpoint c.args.points.now o)

pub loop-input-preserved : goal.loop-input-preserved
unfolding has_input
loop-input-preserved c = λ o.
    let p : TxIn → Bool = λ i. same_outpoint i.prev o in
    let xs = c.args.inputs.now in
    let i = c.loop-input.input-index in
    let old = contains same_outpoint c.args.points.now o in
    c.in_ok-insert.ensures.updates.0 o
    ∙ (λ k. cond (ap p c.input-item.is k) true (c.loop-input.invariant o k))
    ∙ join (p (get_or xs i c.input-item.result)) old (has_input o (take i xs))
    ∙ ap (λ b. old || b) (sym (list_any_more p xs i c.input-item.result c.loop-input-test.true))
