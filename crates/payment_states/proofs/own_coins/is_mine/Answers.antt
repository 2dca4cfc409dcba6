use Rattle.std.proofs.Common.{◌≡◌, ◌∙◌, Bool, true, false, ◌&&◌, sym, ap, Bor}
use Rattle.std.specs.Prelude.{is_some}
use Rattle.std.proofs.lemmas.List.Folds.{list_all_at, list_all_more}
use Rattle.tx_codec.specs.Transaction.{Transaction}
use Rattle.tx_codec.specs.declared.tx.TxIn.{TxIn}
use Rattle.coin_book.specs.Coins.{coins_of}
use Rattle.payment_states.specs.Candidates.{is_coin}
use Rattle.payment_states.proofs.Mine.{map_some, parent_is}
use Rattle.payment_states.proofs.own_coins.is_mine.Goals as goal

pub returns-then-is_none : goal.returns-then-is_none
returns-then-is_none c =
    let p : TxIn → Bool = λ i. is_coin (coins_of c.args.book.now) i.prev in
    let here : p c.input-item.result ≡ false = sym (parent_is c.args.book.now c.input-item.result.prev) ∙ ap is_some (sym c.parent.ensures) ∙ map_some (λ (t : Bor Transaction). t.now) c.parent.result ∙ c.if-is_none.ensures in
    sym (list_all_at p c.args.inputs.now c.loop-input.input-index c.input-item.result c.loop-input-test.true (ap p (sym c.input-item.is) ∙ here))

pub loop-input-preserved : goal.loop-input-preserved
loop-input-preserved c =
    let p : TxIn → Bool = λ i. is_coin (coins_of c.args.book.now) i.prev in
    let here : p c.input-item.result ≡ true = sym (parent_is c.args.book.now c.input-item.result.prev) ∙ ap is_some (sym c.parent.ensures) ∙ map_some (λ (t : Bor Transaction). t.now) c.parent.result ∙ c.if-is_none.ensures in
    list_all_more p c.args.inputs.now c.loop-input.input-index c.input-item.result c.loop-input-test.true
    ∙ (λ k. c.loop-input.invariant k && (ap p (sym c.input-item.is) ∙ here) k)
