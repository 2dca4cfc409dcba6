use Rattle.std.proofs.Common.{◌≡◌, ◌∙◌, ◌||◌, ℕ, Bool, true, false, get_or, sym, ap}
use Rattle.std.proofs.lemmas.List.{get_or_default}
use Rattle.std.proofs.lemmas.List.Folds.{list_any_at, list_any_more}
use Rattle.payment_states.specs.PendingView.{no_tx}
use Rattle.fee_bump.specs.Faults.{has_signal}
use Rattle.fee_bump.proofs.replaced.any_signals.Goals as goal

pub bounds-txs-place : goal.bounds-txs-place
bounds-txs-place c = c.requires c.loop-place.place-index 0 c.loop-place-test.true

pub returns-then-has_signal : goal.returns-then-has_signal
returns-then-has_signal c =
    let i = c.loop-place.place-index in
    let xs = c.args.places.now in
    let txs = c.args.txs.now in
    let lt = c.loop-place-test.true in
    let test : ℕ → Bool = λ j. has_signal (get_or txs j no_tx) in
    let here : test (get_or xs i 0) ≡ true =
    ap has_signal (sym (c.index-txs-place.is ∙ get_or_default txs (get_or xs i 0) c.index-txs-place.result no_tx (c.requires i 0 lt))) ∙ sym c.has_signal.ensures ∙ c.if-has_signal.true in
    sym (list_any_at test xs i 0 lt here)

pub loop-place-preserved : goal.loop-place-preserved
loop-place-preserved c =
    let i = c.loop-place.place-index in
    let xs = c.args.places.now in
    let txs = c.args.txs.now in
    let lt = c.loop-place-test.true in
    let test : ℕ → Bool = λ j. has_signal (get_or txs j no_tx) in
    let here : test (get_or xs i 0) ≡ false =
    ap has_signal (sym (c.index-txs-place.is ∙ get_or_default txs (get_or xs i 0) c.index-txs-place.result no_tx (c.requires i 0 lt))) ∙ sym c.has_signal.ensures ∙ c.if-has_signal.false in
    list_any_more test xs i 0 lt ∙ (λ k. c.loop-place.invariant k || here k)
