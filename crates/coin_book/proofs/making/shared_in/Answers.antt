use Rattle.std.proofs.Common.{◌≡◌, ◌∙◌, ◌++◌, ap, arith, length, sym, map, Vec, Global, Option}
use Rattle.std.specs.Prelude.{is_some}
use Rattle.std.specs.Option.{option_to_list}
use Rattle.std.proofs.lemmas.List.{append-nil}
use Rattle.coin_book.specs.Coins.{coin_at, coins_below, made_in}
use Rattle.coin_book.specs.Invariant.{coin_made, held_made, weigher}
use Rattle.coin_book.specs.declared.coin.Coin.{Coin}
use Rattle.coin_book.specs.declared.held.Held.{Held}
use Rattle.tx_codec.specs.Transaction.{Transaction}
use Rattle.coin_book.proofs.CoinSteps.{by_maker, held_more, one_below, some_found}
use Rattle.coin_book.proofs.ListSteps.{on_err}
use Rattle.coin_book.proofs.making.shared_in.Goals as goal
use Rattle.coin_book.proofs.making.shared_in.Goals.{in-Some+in_ok-add_held-in-Some, in-None}

pub loop-index-init : goal.loop-index-init
unfolding coins_below
loop-index-init c = ap (map held_made) c.new-held.ensures.items

pub loop-index-preserved : goal.loop-index-preserved
loop-index-preserved c =
    let t = c.args.maker.now.value in
    let weigh = weigher c.args.weights.now.entries in
    let old = map held_made c.loop-index.held.items in
    let new = map held_made c.match-branch-2.held.items in
    let more : new ≡ old ++ map (by_maker t) (option_to_list c.in_ok-coin.field-0) =
    elim c.match-branch-2.branch [
      | in-Some+in_ok-add_held-in-Some w ↦ ap (λ (v : Vec Held Global). map held_made v.items) w.held-is ∙ w.in_ok-add_held-in-Some.ensures ∙ ap (λ (o : Option Coin). old ++ map (by_maker t) (option_to_list o)) (sym w.in-Some.is)
      | in-None w ↦ ap (λ (v : Vec Held Global). map held_made v.items) w.held-is ∙ sym (append-nil old) ∙ ap (λ (o : Option Coin). old ++ map (by_maker t) (option_to_list o)) (sym w.in-None.is)
    ]
    in
    held_more weigh c.args.height t c.loop-index.index old new c.in_ok-coin.field-0
    (c.in_ok-coin.ensures.made ∙ ap (λ (x : Transaction). coin_made (coin_at weigh c.args.height x c.loop-index.index)) c.as_ref-tx.ensures) more c.loop-index.invariant

pub returns-in_err-coin-clause-short : goal.returns-in_err-coin-clause-short
unfolding made_in
returns-in_err-coin-clause-short c =
    let t = c.args.maker.now.value in
    let weigh = weigher c.args.weights.now.entries in
    let coin = coin_at weigh c.args.height t in
    let end : c.len-index-end.result ≡ length t.outputs = c.len-index-end.ensures ∙ c.tx.inside.outputs.ok.0 ∙ ap (λ (x : Transaction). length x.outputs) (c.tx.view_is ∙ c.as_ref-tx.ensures) in
    let lt = c.loop-index-test.true in
    on_err c.from_residual.result
    (one_below coin (length t.outputs) c.loop-index.index (omega arith) (ap (λ (x : Transaction). is_some (coin_at weigh c.args.height x c.loop-index.index)) (sym c.as_ref-tx.ensures) ∙ c.in_err-coin.ensures.short))

pub returns-in_err-add_held-in-Some-clause-short : goal.returns-in_err-add_held-in-Some-clause-short
unfolding made_in
returns-in_err-add_held-in-Some-clause-short c =
    let t = c.args.maker.now.value in
    let weigh = weigher c.args.weights.now.entries in
    let coin = coin_at weigh c.args.height t in
    let end : c.len-index-end.result ≡ length t.outputs = c.len-index-end.ensures ∙ c.tx.inside.outputs.ok.0 ∙ ap (λ (x : Transaction). length x.outputs) (c.tx.view_is ∙ c.as_ref-tx.ensures) in
    let lt = c.loop-index-test.true in
    on_err c.from_residual-in_err-add_held-in-Some.result
    (one_below coin (length t.outputs) c.loop-index.index (omega arith)
    (some_found c.in-Some.coin (coin c.loop-index.index) (sym c.in-Some.is ∙ c.in_ok-coin.ensures.made ∙ ap (λ (x : Transaction). coin_made (coin_at weigh c.args.height x c.loop-index.index)) c.as_ref-tx.ensures)))
