use Rattle.std.proofs.Common.{◌≡◌, ◌∙◌, ◌++◌, ◌<◌, List, Option, Vec, Global, length, sym, ap, arith}
use Rattle.std.specs.Prelude.{bytes_eq}
use Rattle.std.specs.List.{filter_map}
use Rattle.std.specs.Option.{option_to_list}
use Rattle.std.proofs.lemmas.List.{append-nil, take_all}
use Rattle.indexmap.specs.IndexSet.{contains}
use Rattle.fund_base.specs.Outpoints.{same_outpoint}
use Rattle.coin_candidates.specs.declared.candidate.Candidate.{Candidate}
use Rattle.coin_book.specs.Coins.{coins_of}
use Rattle.coin_book.specs.declared.coin.Coin.{Coin}
use Rattle.payment_facts.specs.LeftOut.{left_by}
use Rattle.payment_states.proofs.ChoiceSteps.{filter_map_get}
use Rattle.payment_facts.proofs.left_out.all_left.Goals as goal
use Rattle.payment_facts.proofs.left_out.all_left.Goals.{in-Some+in_ok-push-in-Some, in-None}

pub loop-number-preserved : goal.loop-number-preserved
loop-number-preserved c =
    let old = c.loop-number.all.items in
    let new = c.match-branch-2.all.items in
    let more : new ≡ old ++ option_to_list c.in_ok-candidate.field-0 =
    elim c.match-branch-2.branch [
      | in-Some+in_ok-push-in-Some w ↦ ap (λ (v : Vec Candidate Global). v.items) w.all-is ∙ w.in_ok-push-in-Some.ensures.items ∙ ap (λ (o : Option Candidate). old ++ option_to_list o) (sym w.in-Some.is)
      | in-None w ↦ ap (λ (v : Vec Candidate Global). v.items) w.all-is ∙ sym (append-nil old) ∙ ap (λ (o : Option Candidate). old ++ option_to_list o) (sym w.in-None.is)
    ]
    in
    let f : Coin → Option Candidate = λ x. left_by c.args.book.now (contains bytes_eq c.args.gone.now) c.args.tip (contains same_outpoint c.args.claimed.now x.coin) (contains same_outpoint c.args.locked.now x.coin) x in
    let coins = coins_of c.args.book.now in
    let lt : c.loop-number.number < length coins = omega (arith, c.len-number-end.ensures.count) in
    more
    ∙ (λ k. c.loop-number.invariant k ++ option_to_list (c.in_ok-candidate.ensures.exact k))
    ∙ sym (filter_map_get f coins c.loop-number.number lt)

pub returns-clause-left : goal.returns-clause-left
returns-clause-left c =
    let f : Coin → Option Candidate = λ x. left_by c.args.book.now (contains bytes_eq c.args.gone.now) c.args.tip (contains same_outpoint c.args.claimed.now x.coin) (contains same_outpoint c.args.locked.now x.coin) x in
    let coins = coins_of c.args.book.now in
    c.loop-number.invariant ∙ ap (λ (cs : List Coin). filter_map f cs) (take_all c.loop-number.number coins (omega (arith, c.len-number-end.ensures.count)))
