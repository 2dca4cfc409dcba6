use Rattle.std.proofs.Common.{◌≡◌, ◌∙◌, Bool, true, false, ◌&&◌, sym, ap}
use Rattle.std.specs.Prelude.{bytes_eq}
use Rattle.std.proofs.lemmas.List.Folds.{list_all_at, list_all_more}
use Rattle.indexmap.specs.IndexSet.{contains}
use Rattle.tx_codec.specs.declared.tx.TxIn.{TxIn}
use Rattle.payment_facts.specs.LeftOut.{stays_coin}
use Rattle.payment_facts.proofs.left_out.stays_mine.Goals as goal

pub returns-then-not-stays_coin : goal.returns-then-not-stays_coin
returns-then-not-stays_coin c =
    let p : TxIn → Bool = λ i. stays_coin c.args.book.now (contains bytes_eq c.args.gone.now) i.prev in
    let here : p c.input-item.result ≡ false = sym c.stays_coin.ensures ∙ c.if-not-stays_coin.true in
    sym (list_all_at p c.args.inputs.now c.loop-input.input-index c.input-item.result c.loop-input-test.true (ap p (sym c.input-item.is) ∙ here))

pub loop-input-preserved : goal.loop-input-preserved
loop-input-preserved c =
    let p : TxIn → Bool = λ i. stays_coin c.args.book.now (contains bytes_eq c.args.gone.now) i.prev in
    let here : p c.input-item.result ≡ true = sym c.stays_coin.ensures ∙ c.if-not-stays_coin.false in
    list_all_more p c.args.inputs.now c.loop-input.input-index c.input-item.result c.loop-input-test.true
    ∙ (λ k. c.loop-input.invariant k && (ap p (sym c.input-item.is) ∙ here) k)
