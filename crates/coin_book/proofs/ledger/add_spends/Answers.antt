use Rattle.std.proofs.Common.{◌≡◌, ◌∙◌, ap, sym, ◌++◌, ◌∷◌, [], ◌+◌, ◌||◌, ◌&&◌, cond, Bool, List, take, length, arith}
use Rattle.std.specs.Prelude.{not}
use Rattle.std.proofs.lemmas.List.{append-nil}
use Rattle.std.proofs.Math.Seq.{take-length}
use Rattle.std.proofs.lemmas.List.Folds.{list_any_more}
use Rattle.fund_base.specs.Outpoints.{same_outpoint}
use Rattle.tx_codec.specs.declared.tx.TxIn.{TxIn}
use Rattle.coin_book.specs.Spends.{has_input}
use Rattle.coin_book.specs.Places.{spends_in}
use Rattle.coin_book.specs.Merging.{is_new, is_spender}
use Rattle.coin_book.specs.Watched.{watches}
use Rattle.coin_book.specs.declared.coin.Spend.{Spend}
use Rattle.coin_book.proofs.NewSpends.{once, one_more}
use Rattle.coin_book.proofs.ledger.add_spends.Goals as goal

pub loop-input-init : goal.loop-input-init
unfolding has_input
loop-input-init c = λ o. sym (append-nil (spends_in c.args.spends.now o))

pub loop-input-preserved : goal.loop-input-preserved
unfolding has_input
loop-input-preserved c = λ o.
    let front = take c.loop-input.input-index c.args.inputs.now in
    let x = c.input-item.result in
    let s = c.args.spend.now in
    let old = spends_in c.args.spends.now o in
    let seen = watches c.args.watched.now o in
    let base = is_spender (spends_in c.args.base.now o) s.txid in
    let fresh : List Spend → Bool = λ l. seen && not (base || is_spender l s.txid) in
    let next : has_input o (take (c.loop-input.input-index + 1) c.args.inputs.now) ≡ (has_input o front || same_outpoint x.prev o) =
    list_any_more (λ (i : TxIn). same_outpoint i.prev o) c.args.inputs.now c.loop-input.input-index x c.loop-input-test.true ∙ ap (λ (i : TxIn). has_input o front || same_outpoint i.prev o) (sym c.input-item.is)
    in
    c.in_ok-add_spend.ensures o
    ∙ ap (λ (l : List Spend). l ++ cond (same_outpoint x.prev o && fresh l) (s ∷ []) []) (c.loop-input.invariant o)
    ∙ one_more fresh (has_input o front) (same_outpoint x.prev o) old s (once seen base old s)
    ∙ ap (λ (b : Bool). old ++ cond (b && fresh old) (s ∷ []) []) (sym next)

pub returns : goal.returns
returns c = λ o.
    let end = c.loop-input.auto.input-index-end in
    let at : c.loop-input.input-index ≡ length c.args.inputs.now = omega (arith, c.loop-input-test.false) in
    c.loop-input.invariant o
    ∙ ap (λ (l : List TxIn). spends_in c.args.spends.now o ++ cond (has_input o l && is_new c.args.watched.now c.args.base.now c.args.spends.now c.args.spend.now.txid o) (c.args.spend.now ∷ []) []) (ap (λ n. take n c.args.inputs.now) at ∙ take-length c.args.inputs.now)
