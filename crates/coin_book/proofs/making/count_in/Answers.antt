use Rattle.std.proofs.Common.{◌≡◌, ◌∙◌, arith, None, ap, length, refl, sym}
use Rattle.tx_codec.specs.Transaction.{Transaction}
use Rattle.coin_book.specs.Coins.{coin_at, coins_below, made_in}
use Rattle.coin_book.specs.Invariant.{weigher}
use Rattle.coin_book.proofs.CoinSteps.{count_more, counted_none, one_of}
use Rattle.coin_book.proofs.making.count_in.Goals as goal
use Rattle.coin_book.proofs.making.count_in.Goals.{else-is_coin, then-is_coin}

pub loop-index-init : goal.loop-index-init
unfolding coins_below
loop-index-init c = record { counted = refl; few = omega arith }

pub loop-index-preserved : goal.loop-index-preserved
loop-index-preserved c =
    let coin = coin_at (weigher c.args.weights.now.entries) None c.args.tx.now in
    let i = c.loop-index.index in
    let more = count_more coin i in
    let so_far = c.loop-index.invariant.counted in
    let few = c.loop-index.invariant.few in
    elim c.if-is_coin.branch [
      | then-is_coin w ↦
          let one = one_of (coin i) (sym (c.is_coin.ensures None) ∙ w.if-is_coin.true) in
          let is = w.count-is in
          record { counted = omega arith; few = omega arith }
      | else-is_coin w ↦
          let none = counted_none (coin i) (sym (c.is_coin.ensures None) ∙ w.if-is_coin.false) in
          let is = w.count-is in
          record { counted = omega arith; few = omega arith }
    ]

pub returns : goal.returns
unfolding made_in
returns c =
    let coin = coin_at (weigher c.args.weights.now.entries) None c.args.tx.now in
    let end : c.len-index-end.result ≡ length c.args.tx.now.outputs = c.len-index-end.ensures ∙ c.tx.inside.outputs.ok.0 ∙ ap (λ (t : Transaction). length t.outputs) c.tx.view_is in
    let lt = c.loop-index-test.false in
    let le = c.loop-index.auto.index-end in
    let at : c.loop-index.index ≡ length c.args.tx.now.outputs = omega arith in
    c.loop-index.invariant.counted ∙ ap (λ n. length (coins_below coin n)) at
