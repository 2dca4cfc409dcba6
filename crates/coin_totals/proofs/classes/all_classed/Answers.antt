use Rattle.std.proofs.Common.{◌≡◌, ◌∙◌, ◌++◌, ◌<◌, List, Option, Vec, Global, length, map, sym, ap, arith}
use Rattle.std.specs.Option.{option_to_list}
use Rattle.std.proofs.lemmas.List.{append-nil, take_all}
use Rattle.indexmap.specs.IndexSet.{contains}
use Rattle.fund_base.specs.Outpoints.{same_outpoint}
use Rattle.coin_book.specs.Coins.{coins_of}
use Rattle.coin_book.specs.declared.coin.Coin.{Coin}
use Rattle.coin_totals.specs.ByPlace.{classed_by}
use Rattle.coin_totals.specs.declared.classes.ClassedCoin.{ClassedCoin}
use Rattle.coin_totals.proofs.ClassLaws.{map_get}
use Rattle.coin_totals.proofs.classes.all_classed.Goals as goal
use Rattle.coin_totals.proofs.classes.all_classed.Goals.{in-Some+in_ok-push-in-Some, in-None}

pub loop-number-preserved : goal.loop-number-preserved
loop-number-preserved c =
    let old = c.loop-number.all.items in
    let new = c.match-classed_number.all.items in
    let more : new ≡ old ++ option_to_list c.classed_number.result =
    elim c.match-classed_number.branch [
      | in-Some+in_ok-push-in-Some w ↦ ap (λ (v : Vec ClassedCoin Global). v.items) w.all-is ∙ w.in_ok-push-in-Some.ensures.items ∙ ap (λ (o : Option ClassedCoin). old ++ option_to_list o) (sym w.in-Some.is)
      | in-None w ↦ ap (λ (v : Vec ClassedCoin Global). v.items) w.all-is ∙ sym (append-nil old) ∙ ap (λ (o : Option ClassedCoin). old ++ option_to_list o) (sym w.in-None.is)
    ]
    in
    let f : Coin → ClassedCoin = classed_by c.args.book.now c.args.tip c.args.facts.now.pending.items c.args.facts.now.safe.items (contains same_outpoint c.args.claimed.now) (contains same_outpoint c.args.locked.now) c.args.states.now in
    let coins = coins_of c.args.book.now in
    let lt : c.loop-number.number < length coins = omega (arith, c.len-number-end.ensures.count) in
    more
    ∙ (λ k. c.loop-number.invariant k ++ option_to_list (c.classed_number.ensures k))
    ∙ sym (map_get f coins c.loop-number.number lt)

pub returns : goal.returns
returns c =
    let f : Coin → ClassedCoin = classed_by c.args.book.now c.args.tip c.args.facts.now.pending.items c.args.facts.now.safe.items (contains same_outpoint c.args.claimed.now) (contains same_outpoint c.args.locked.now) c.args.states.now in
    let coins = coins_of c.args.book.now in
    c.loop-number.invariant ∙ ap (λ (cs : List Coin). map f cs) (take_all c.loop-number.number coins (omega (arith, c.len-number-end.ensures.count)))
