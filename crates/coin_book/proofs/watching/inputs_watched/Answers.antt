use Rattle.std.proofs.Common.{◌≡◌, ◌∙◌, ◌++◌, ◌∷◌, ◌&&◌, [], Bool, List, ap, length, sym, take, arith}
use Rattle.std.specs.List.{list_all}
use Rattle.std.proofs.Math.Seq.{take-length}
use Rattle.std.proofs.lemmas.List.{take_more}
use Rattle.std.proofs.lemmas.List.Folds.{list_all-append, list_all_at}
use Rattle.tx_codec.specs.declared.tx.TxIn.{TxIn}
use Rattle.coin_book.specs.Watched.{watches}
use Rattle.coin_book.proofs.watching.inputs_watched.Goals as goal

pub loop-input-preserved : goal.loop-input-preserved
loop-input-preserved c =
    let seen : TxIn → Bool = λ i. watches c.args.watched.now i.prev in
    let xs = c.args.inputs.now in
    let i = c.loop-input.input-index in
    let x = c.input-item.result in
    ap (list_all seen) (take_more xs i x c.loop-input-test.true ∙ ap (λ (y : TxIn). take i xs ++ y ∷ []) (sym c.input-item.is))
    ∙ list_all-append seen (take i xs) (x ∷ [])
    ∙ (λ j. c.loop-input.invariant j && ((sym c.has.ensures ∙ c.if-not-has.false) j && list_all seen []))

pub returns-then-not-has : goal.returns-then-not-has
returns-then-not-has c =
    let seen : TxIn → Bool = λ i. watches c.args.watched.now i.prev in
    sym (list_all_at seen c.args.inputs.now c.loop-input.input-index c.input-item.result c.loop-input-test.true (ap seen (sym c.input-item.is) ∙ sym c.has.ensures ∙ c.if-not-has.true))

pub returns : goal.returns
returns c =
    let seen : TxIn → Bool = λ i. watches c.args.watched.now i.prev in
    let end = c.loop-input.auto.input-index-end in
    let at : c.loop-input.input-index ≡ length c.args.inputs.now = omega (arith, c.loop-input-test.false) in
    sym (ap (list_all seen) (sym (ap (λ n. take n c.args.inputs.now) at ∙ take-length c.args.inputs.now)) ∙ c.loop-input.invariant)
