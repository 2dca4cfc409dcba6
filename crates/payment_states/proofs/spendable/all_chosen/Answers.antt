use Rattle.std.proofs.Common.{◌≡◌, ◌∙◌, ◌++◌, ◌<◌, List, Option, Vec, Global, length, sym, ap, arith}
use Rattle.std.specs.List.{filter_map}
use Rattle.std.specs.Option.{option_to_list}
use Rattle.std.proofs.lemmas.List.{append-nil, take_all}
use Rattle.indexmap.specs.IndexSet.{contains}
use Rattle.fund_base.specs.Outpoints.{same_outpoint}
use Rattle.coin_candidates.specs.declared.candidate.Candidate.{Candidate}
use Rattle.coin_book.specs.Coins.{coins_of}
use Rattle.coin_book.specs.declared.coin.Coin.{Coin}
use Rattle.payment_states.specs.ByPlace.{chosen_at, place_among}
use Rattle.payment_states.proofs.ChoiceSteps.{filter_map_get}
use Rattle.payment_states.proofs.spendable.all_chosen.Goals as goal
use Rattle.payment_states.proofs.spendable.all_chosen.Goals.{in-Some+in_ok-push-in-Some, in-None}

pub loop-number-preserved : goal.loop-number-preserved
loop-number-preserved c =
    let old = c.loop-number.all.items in
    let new = c.match-branch-3.all.items in
    let more : new ≡ old ++ option_to_list c.in_ok-candidate.field-0 =
    elim c.match-branch-3.branch [
      | in-Some+in_ok-push-in-Some w ↦ ap (λ (v : Vec Candidate Global). v.items) w.all-is ∙ w.in_ok-push-in-Some.ensures.items ∙ ap (λ (o : Option Candidate). old ++ option_to_list o) (sym w.in-Some.is)
      | in-None w ↦ ap (λ (v : Vec Candidate Global). v.items) w.all-is ∙ sym (append-nil old) ∙ ap (λ (o : Option Candidate). old ++ option_to_list o) (sym w.in-None.is)
    ]
    in
    let f : Coin → Option Candidate = λ x. chosen_at c.args.book.now c.args.tip c.args.facts.now.pending.items c.args.facts.now.safe.items c.args.facts.now.ancestors.items c.args.facts.now.descendants.items c.args.prices.now (contains same_outpoint c.args.claimed.now x.coin) (contains same_outpoint c.args.locked.now x.coin) x (place_among c.args.states.now x.coin.txid) in
    let coins = coins_of c.args.book.now in
    let lt : c.loop-number.number < length coins = omega (arith, c.len-number-end.ensures.count) in
    more
    ∙ (λ k. c.loop-number.invariant k ++ option_to_list (c.in_ok-candidate.ensures k))
    ∙ sym (filter_map_get f coins c.loop-number.number lt)

pub returns-clause-chosen : goal.returns-clause-chosen
returns-clause-chosen c =
    let f : Coin → Option Candidate = λ x. chosen_at c.args.book.now c.args.tip c.args.facts.now.pending.items c.args.facts.now.safe.items c.args.facts.now.ancestors.items c.args.facts.now.descendants.items c.args.prices.now (contains same_outpoint c.args.claimed.now x.coin) (contains same_outpoint c.args.locked.now x.coin) x (place_among c.args.states.now x.coin.txid) in
    let coins = coins_of c.args.book.now in
    c.loop-number.invariant ∙ ap (λ (cs : List Coin). filter_map f cs) (take_all c.loop-number.number coins (omega (arith, c.len-number-end.ensures.count)))
