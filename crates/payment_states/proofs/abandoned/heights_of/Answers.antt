use Rattle.std.proofs.Common.{◌∙◌, ℕ, List, [], ◌∷◌, ◌++◌, Option, sym, ap, subst, arith}
use Rattle.std.proofs.lemmas.List.{map_more}
use Rattle.coin_book.specs.Asked.{IsAskedTxid}
use Rattle.coin_book.specs.Spends.{height_of}
use Rattle.payment_states.proofs.abandoned.heights_of.Goals as goal

pub loop-txid-preserved : goal.loop-txid-preserved
loop-txid-preserved c =
    let f : List ℕ → Option ℕ = height_of c.args.book.now.confirmed in (
      c.in_ok-push.ensures.items
          ∙ (λ k. c.loop-txid.invariant.0 k ++ (c.height.ensures ∙ ap f c.txid-item.is) k ∷ [])
          ∙ sym (map_more f c.args.txids.now c.loop-txid.txid-index c.txid-item.result c.loop-txid-test.true),
      omega (arith, c.in_ok-push.ensures.len),
    )

pub height-requires : goal.height-requires
height-requires c =
    let i = c.loop-txid.txid-index in
    let x = c.txid-item.result in
    subst (IsAskedTxid c.args.book.now) (sym c.txid-item.is) (c.requires i x c.loop-txid-test.true)
