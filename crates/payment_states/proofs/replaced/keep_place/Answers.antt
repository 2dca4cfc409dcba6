use Rattle.std.proofs.Common.{◌≡◌, ◌∙◌, ℕ, ◌||◌, Bool, true, false, cond, take, Option, Some, refl, sym, ap}
use Rattle.std.specs.Map.{lookup}
use Rattle.std.proofs.lemmas.List.Folds.{list_any_more}
use Rattle.fund_base.specs.Outpoints.{same_outpoint}
use Rattle.tx_codec.specs.declared.tx.TxIn.{TxIn}
use Rattle.coin_book.specs.Spends.{has_input}
use Rattle.payment_states.proofs.replaced.keep_place.Goals as goal

pub loop-input-init : goal.loop-input-init
unfolding has_input
loop-input-init c = λ o. refl

either : (b d : Bool) (s old : Option ℕ) → cond d s (cond b s old) ≡ cond (b || d) s old
either true true s old = refl
either true false s old = refl
either false true s old = refl
either false false s old = refl

pub loop-input-preserved : goal.loop-input-preserved
unfolding has_input
loop-input-preserved c = λ o.
    let p : TxIn → Bool = λ i. same_outpoint i.prev o in
    let i = c.loop-input.input-index in
    let xs = c.args.inputs.now in
    let old = lookup (same_outpoint o) c.args.nearest.now.entries in
    c.in_ok-insert.ensures.updates.0 o
    ∙ ap (λ r. cond (p c.input-item.result) (Some c.args.place) r) (c.loop-input.invariant o)
    ∙ either (has_input o (take i xs)) (p c.input-item.result) (Some c.args.place) old
    ∙ ap (λ b. cond b (Some c.args.place) old) (ap (λ b. has_input o (take i xs) || b) (ap p c.input-item.is) ∙ sym (list_any_more p xs i c.input-item.result c.loop-input-test.true))
