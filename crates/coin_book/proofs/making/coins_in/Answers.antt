use Rattle.std.proofs.Common.{◌≡◌, ◌∙◌, ◌++◌, arith, length, sym, ap, Vec, Global, Option}
use Rattle.std.specs.Option.{option_to_list}
use Rattle.std.proofs.lemmas.List.{append-nil}
use Rattle.coin_book.specs.Coins.{coin_at, coins_below}
use Rattle.coin_book.specs.Invariant.{weigher}
use Rattle.coin_book.specs.declared.coin.Coin.{Coin}
use Rattle.tx_codec.specs.Transaction.{Transaction}
use Rattle.coin_book.proofs.CoinSteps.{below_more, one_below, some_found}
use Rattle.coin_book.proofs.ListSteps.{on_err}
use Rattle.coin_book.proofs.making.coins_in.Goals as goal
use Rattle.coin_book.proofs.making.coins_in.Goals.{in-Some+in_ok-push-in-Some, in-None}

pub loop-index-init : goal.loop-index-init
unfolding coins_below
loop-index-init c = c.new-coins.ensures.items

pub loop-index-preserved : goal.loop-index-preserved
loop-index-preserved c =
    let old = c.loop-index.coins.items in
    let new = c.match-branch-2.coins.items in
    let more : new ≡ old ++ option_to_list c.in_ok-coin.field-0 =
    elim c.match-branch-2.branch [
      | in-Some+in_ok-push-in-Some w ↦ ap (λ (v : Vec Coin Global). v.items) w.coins-is ∙ w.in_ok-push-in-Some.ensures.items ∙ ap (λ (o : Option Coin). old ++ option_to_list o) (sym w.in-Some.is)
      | in-None w ↦ ap (λ (v : Vec Coin Global). v.items) w.coins-is ∙ sym (append-nil old) ∙ ap (λ (o : Option Coin). old ++ option_to_list o) (sym w.in-None.is)
    ]
    in
    below_more (coin_at (weigher c.args.weights.now.entries) c.args.height c.args.tx.now) c.loop-index.index old new c.in_ok-coin.field-0 c.in_ok-coin.ensures.made more c.loop-index.invariant

pub returns-in_err-coin-clause-short : goal.returns-in_err-coin-clause-short
returns-in_err-coin-clause-short c =
    let coin = coin_at (weigher c.args.weights.now.entries) c.args.height c.args.tx.now in
    let end : c.len-index-end.result ≡ length c.args.tx.now.outputs = c.len-index-end.ensures ∙ c.tx.inside.outputs.ok.0 ∙ ap (λ (t : Transaction). length t.outputs) c.tx.view_is in
    let lt = c.loop-index-test.true in
    on_err c.from_residual.result (one_below coin (length c.args.tx.now.outputs) c.loop-index.index (omega arith) c.in_err-coin.ensures.short)

pub returns-in_err-push-in-Some-clause-short : goal.returns-in_err-push-in-Some-clause-short
returns-in_err-push-in-Some-clause-short c =
    let coin = coin_at (weigher c.args.weights.now.entries) c.args.height c.args.tx.now in
    let end : c.len-index-end.result ≡ length c.args.tx.now.outputs = c.len-index-end.ensures ∙ c.tx.inside.outputs.ok.0 ∙ ap (λ (t : Transaction). length t.outputs) c.tx.view_is in
    let lt = c.loop-index-test.true in
    on_err c.from_residual-in_err-push-in-Some.result
    (one_below coin (length c.args.tx.now.outputs) c.loop-index.index (omega arith) (some_found c.in-Some.coin (coin c.loop-index.index) (sym c.in-Some.is ∙ c.in_ok-coin.ensures.made)))
