-- A payment of a plan pays for the Pending payments that its coins rest on.
use Rattle.std.proofs.Common.{ℕ, ◌+◌, ◌-◌, ◌≤◌, ◌++◌, ◌&&◌, List, Option, Some, None, arith, All, Contains}
use Rattle.std.specs.Prelude.{not, option_map}
use Rattle.std.proofs.lemmas.List.Elements.{All-append, All-contains, All-filter, All-weaker}
use Rattle.coin_book.specs.History.{History}
use Rattle.coin_candidates.specs.declared.candidate.Candidate.{Candidate}
use Rattle.fee_bump.specs.Bump.{PlainTerms, added_of, is_among, payment_place, presets_at, replaced_txids, terms_of}
use Rattle.fee_rates.specs.Fee.{fee_of, vsize_of}
use Rattle.fund_files.specs.declared.chain.Chain.{Chain}
use Rattle.fund_plan.proofs.BurdenLaws.{burden_paid}
use Rattle.fund_plan.specs.Answer.{IsPayment}
use Rattle.fund_plan.specs.Pays.{outputs_of}
use Rattle.fund_plan.specs.Selection.{PlainFunded}
use Rattle.fund_steps.specs.Amounts.{prices_of, value_of}
use Rattle.fund_steps.specs.Listed.{burden_in}
use Rattle.fund_steps.specs.Plan.{coins_in, coins_with}
use Rattle.known_fees.specs.Worth.{spent_by}
use Rattle.payment_facts.proofs.PricedFacts.{among_priced, left_priced}
use Rattle.payment_facts.specs.LeftOut.{confirmed_without_of}
use Rattle.payment_states.proofs.PricedSteps.{all_priced, coins_pay}
use Rattle.payment_states.specs.PendingView.{is_listed, tx_at, view_of}
use Rattle.payment_states.specs.Prices.{IsPriced}
use Rattle.request_text.specs.PlainRequest.{PlainRequest}
use Rattle.wallet_text.specs.PlainWallet.{PlainWallet}
use Rattle.wallet_text.specs.WalletRules.{IsWallet}
use Rattle.command_inputs.specs.Outcome.{bump_of, candidates_by, plan_of}
use Rattle.command_inputs.specs.Packages.{PaysForPackages}

-- ---- each coin that a plan can spend has its price

-- those that a replaced payment spends, and those that may be added to them
terms_priced : (w : PlainWallet) (h : History) (tip : ℕ) (r : PlainRequest) → All (IsPriced w h r.rate) ((terms_of w h tip r).presets ++ (terms_of w h tip r).candidates)
unfolding terms_of presets_at
terms_priced w h tip r =
    let i : ℕ = payment_place (view_of w h) r in
    let presets : List Candidate = presets_at w h tip r.rate i in
    let gone : List (List ℕ) = replaced_txids (view_of w h) i in
    let coins : List Candidate = confirmed_without_of w h tip gone in
    All-append (IsPriced w h r.rate) presets (added_of presets coins gone) (among_priced w h tip r.rate (spent_by (tx_at (view_of w h) i)))
    (All-filter (λ (c : Candidate). not (is_among presets c) && not (is_listed gone c.coin.txid)) (IsPriced w h r.rate) coins (left_priced w h tip r.rate gone))

module _ (k : Chain) (r : PlainRequest) where
  abbrev terms : PlainTerms
  terms = terms_of k.wallet k.book k.tip.height r

  priced_by : (o : Option (List ℕ)) → All (IsPriced k.wallet k.book r.rate) (coins_with (option_map bump_of (option_map (λ (txid : List ℕ). terms) o)) (candidates_by k r.rate (option_map (λ (txid : List ℕ). terms) o)))
  priced_by None = all_priced k.wallet k.book k.tip.height r.rate
  priced_by (Some txid) = terms_priced k.wallet k.book k.tip.height r

  all_of_plan : All (IsPriced k.wallet k.book r.rate) (coins_in (plan_of k r))
  all_of_plan = priced_by r.bump

  -- so has each coin that a payment takes from these
  spent_priced : (coins : List Candidate) → All (Contains (coins_in (plan_of k r))) coins → All (IsPriced k.wallet k.book r.rate) coins
  spent_priced coins from =
      All-weaker (Contains (coins_in (plan_of k r))) (IsPriced k.wallet k.book r.rate) (λ c there. All-contains (IsPriced k.wallet k.book r.rate) (coins_in (plan_of k r)) c all_of_plan there) coins from

  -- ---- the package

  pub pays_for_packages : (f : PlainFunded) → IsWallet k.wallet → IsPayment (plan_of k r) f → PaysForPackages k.wallet k.book r f
  pays_for_packages f rules pays = λ places small under.
      let fee : outputs_of r f.change + burden_in (plan_of k r) + prices_of f.coins + fee_of r.rate (vsize_of f.weight) ≤ value_of f.coins = burden_paid (plan_of k r) f pays in
      coins_pay k.wallet k.book r.rate rules.pending_distinct rules.parents f.coins places (vsize_of f.weight) (value_of f.coins - outputs_of r f.change) (spent_priced f.coins pays.candidates) small under.rising under.rest under.known
      (omega (arith, fee))
