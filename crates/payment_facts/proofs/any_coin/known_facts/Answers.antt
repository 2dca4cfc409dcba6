use Rattle.std.proofs.Common.{◌≡◌, ◌∙◌, ◌++◌, List, Option, Vec, Global, sym, ap, subst, All}
use Rattle.std.specs.Option.{option_to_list}
use Rattle.std.proofs.lemmas.List.{append-nil, take_all}
use Rattle.std.proofs.lemmas.List.Elements.{All-weaker}
use Rattle.coin_candidates.specs.Candidates.{IsCandidate}
use Rattle.coin_candidates.specs.declared.candidate.Candidate.{Candidate}
use Rattle.fund_base.specs.declared.outpoint.OutPoint.{OutPoint}
use Rattle.wallet_text.specs.WalletRules.{IsWallet}
use Rattle.payment_facts.specs.AnyCoin.{facts_among, facts_at}
use Rattle.payment_states.specs.Makers.{HasMaker}
use Rattle.payment_facts.proofs.AnySteps.{all_facts_fit}
use Rattle.payment_states.proofs.GraphSteps.{filter_map_more}
use Rattle.payment_facts.proofs.any_coin.known_facts.Goals as goal
use Rattle.payment_facts.proofs.any_coin.known_facts.Goals.{in-Some+in_ok-push-in-Some, in-None}

pub fact_at-requires-clause-facts : goal.fact_at-requires-clause-facts
fact_at-requires-clause-facts c = record {
  pending = c.in_ok-facts.ensures.pending;
  safe = c.in_ok-facts.ensures.safe;
  ancestors = c.in_ok-facts.ensures.ancestors;
  descendants = c.in_ok-facts.ensures.descendants;
}

pub loop-coin-preserved : goal.loop-coin-preserved
loop-coin-preserved c =
    let old = c.loop-coin.all.items in
    let new = c.match-branch-4.all.items in
    let more : new ≡ old ++ option_to_list c.in_ok-candidate.field-0 =
    elim c.match-branch-4.branch [
      | in-Some+in_ok-push-in-Some w ↦ ap (λ (v : Vec Candidate Global). v.items) w.all-is ∙ w.in_ok-push-in-Some.ensures.items ∙ ap (λ (o : Option Candidate). old ++ option_to_list o) (sym w.in-Some.is)
      | in-None w ↦ ap (λ (v : Vec Candidate Global). v.items) w.all-is ∙ sym (append-nil old) ∙ ap (λ (o : Option Candidate). old ++ option_to_list o) (sym w.in-None.is)
    ]
    in
    let f : OutPoint → Option Candidate = facts_at c.args.wallet.now c.args.book.now c.args.tip c.args.rate in
    more
    ∙ (λ k. c.loop-coin.invariant k ++ option_to_list ((c.in_ok-candidate.ensures.exact c.args.rate (c.deref-in-loop-coin.ensures.value ∙ c.in_ok-prices.ensures) ∙ ap f c.coin-item.is) k))
    ∙ sym (filter_map_more f c.args.coins.now c.loop-coin.coin-index c.coin-item.result c.loop-coin-test.true)

pub returns-clause-exact : goal.returns-clause-exact
returns-clause-exact c =
    c.loop-coin.invariant
    ∙ ap (λ (ps : List OutPoint). facts_among c.args.wallet.now c.args.book.now c.args.tip c.args.rate ps) (take_all c.loop-coin.coin-index c.args.coins.now c.loop-coin-test.false)

pub returns-clause-fit : goal.returns-clause-fit
returns-clause-fit c =
    let all = all_facts_fit c.args.wallet.now c.args.book.now c.args.tip c.args.rate c.args.coins.now (subst IsWallet c.wallet.view_is c.wallet.invariant) c.requires.book c.keeps_rules.ensures in
    subst (λ (l : List Candidate). All IsCandidate l) (sym (returns-clause-exact c))
    (All-weaker (λ (x : Candidate). IsCandidate x × HasMaker c.args.book.now x) IsCandidate (λ x h. h.0) (facts_among c.args.wallet.now c.args.book.now c.args.tip c.args.rate c.args.coins.now) all)

pub returns-clause-makers : goal.returns-clause-makers
returns-clause-makers c =
    let all = all_facts_fit c.args.wallet.now c.args.book.now c.args.tip c.args.rate c.args.coins.now (subst IsWallet c.wallet.view_is c.wallet.invariant) c.requires.book c.keeps_rules.ensures in
    subst (λ (l : List Candidate). All (HasMaker c.args.book.now) l) (sym (returns-clause-exact c))
    (All-weaker (λ (x : Candidate). IsCandidate x × HasMaker c.args.book.now x) (HasMaker c.args.book.now) (λ x h. h.1) (facts_among c.args.wallet.now c.args.book.now c.args.tip c.args.rate c.args.coins.now) all)
