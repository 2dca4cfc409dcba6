-- A payment of a request that names another replaces that one by the rules of BIP 125.
use Rattle.std.proofs.Common.{◌≡◌, ◌∙◌, ◌⊎◌, inl, inr, ℕ, ◌+◌, ◌-◌, ◌*◌, ◌<◌, ◌≤◌, ◌++◌, List, [], ◌∷◌, length, Option, Some, None, sym, ap, subst, arith, All, AllPairs, Contains}
use Rattle.std.specs.Prelude.{◌≢◌, ◌↔◌, option_map}
use Rattle.std.specs.List.{Any}
use Rattle.std.proofs.lemmas.List.Elements.{All-contains, All-weaker, Contains-append_cases}
use Rattle.coin_book.specs.Faults.{fault_of as book_fault}
use Rattle.coin_book.specs.History.{History}
use Rattle.fee_bump.proofs.CauseLaws.{bump_clear}
use Rattle.fee_bump.proofs.ConflictLaws.{conflict_goes}
use Rattle.fee_bump.proofs.FitLaws.{added_high}
use Rattle.fee_bump.proofs.GoesSteps.{heirs_back, heirs_told, kin_then, signals_too}
use Rattle.fee_bump.proofs.PayLaws.{pays_fees, pays_rate}
use Rattle.fee_bump.proofs.PlanLaws.{presets_alone_fit}
use Rattle.fee_bump.proofs.TermLaws.{preset_only, preset_some, preset_spent}
use Rattle.known_fees.specs.Worth.{fee_in}
use Rattle.fee_bump.specs.Bump.{PlainTerms, bare_load, fees_in, incremental, least_vsize, payment_place, replaced_at, terms_of}
use Rattle.fee_bump.specs.Faults.{fault_of as bump_fault_of}
use Rattle.fee_bump.specs.Meant.{CanReplace, GoesWith}
use Rattle.fee_rates.proofs.FeeLaws.{vsize_below, vsize_least}
use Rattle.fee_rates.specs.Fee.{fee_of, vsize_of}
use Rattle.fee_rates.specs.Terms.{base_of}
use Rattle.coin_candidates.specs.declared.candidate.Candidate.{Candidate}
use Rattle.fund_plan.proofs.BurdenLaws.{burden_paid, burden_weight}
use Rattle.fund_plan.proofs.SpendLaws.{ones, order_sum}
use Rattle.fund_plan.specs.Answer.{IsPayment}
use Rattle.fund_plan.specs.Pays.{outputs_of}
use Rattle.fund_plan.specs.Selection.{PlainFunded}
use Rattle.fund_steps.proofs.BumpLaws.{replaced_among}
use Rattle.fund_steps.specs.Amounts.{value_of, weight_of as coins_weight}
use Rattle.fund_steps.specs.Listed.{burden_by, burden_in, listed_in, presets_by, presets_in}
use Rattle.fund_steps.specs.Plan.{IsPlan, PlainBump, PlainPlan, coins_in, coins_with}
use Rattle.fund_steps.specs.Selection.{in_order}
use Rattle.fund_steps.specs.Terms.{load_of}
use Rattle.output_groups.proofs.Members.{head_in}
use Rattle.payment_facts.specs.AnyCoin.{facts_at}
use Rattle.payment_states.specs.BookOf.{IsBookOf}
use Rattle.payment_states.specs.Causes.{Spends}
use Rattle.payment_states.specs.PendingView.{PendingView, tx_at, view_of}
use Rattle.payment_facts.specs.Pendings.{pending_below}
use Rattle.request_text.specs.PlainRequest.{PlainRequest}
use Rattle.tx_codec.specs.Transaction.{Transaction}
use Rattle.tx_codec.specs.Weight.{weight_of}
use Rattle.tx_codec.specs.declared.tx.TxIn.{TxIn}
use Rattle.wallet_text.specs.PlainWallet.{PlainWallet}
use Rattle.wallet_text.specs.declared.wallet.Watch.{Watch}
use Rattle.fund_files.specs.Chain.{IsChain}
use Rattle.fund_files.specs.declared.chain.Chain.{Chain}
use Rattle.fund_payment.proofs.ParentLaws.{held_book}
use Rattle.command_inputs.specs.Outcome.{bump_fault_in, bump_of, candidates_by, plan_of}
use Rattle.command_inputs.specs.Replacing.{IsConfirmedCoin, IsEvicted, IsOriginal, PaysTheBurden, Replaces, ReplacesIf}
use Rattle.command_inputs.proofs.TermsLaws.{fault_there}

-- ---- lists

-- what some of these are, some of those are, where these are among those
any_in : {X : Type 0} (P : X → Type 0) (xs ys : List X) → All (Contains ys) xs → Any P xs → Any P ys
any_in P xs ys all a = let c = All-contains (Contains ys) xs a.1 all (a.0, a.2, a.3) in (c.0, a.1, c.1, c.2, a.4)

first_of : {X : Type 0} (xs : List X) → 0 < length xs → (x : X) × Contains xs x
first_of [] some = absurd (omega (arith, some))
first_of (x ∷ xs) some = (x, head_in x xs)

-- ---- sizes

-- coins in order are the same coins, so that their payment is as large
module _ (r : PlainRequest) (change : Watch) (burden : ℕ) (presets : List Candidate) (apart : AllPairs (λ (a b : Candidate). a.coin ≢ b.coin) presets) where
  same_length : length (in_order presets) ≡ length presets
  same_length = sym (ones (in_order presets)) ∙ order_sum (λ (c : Candidate). 1) presets apart ∙ ones presets

  same_weight : coins_weight (in_order presets) ≡ coins_weight presets
  same_weight = order_sum (λ (c : Candidate). c.weight) presets apart

  same_base : base_of (load_of r change (in_order presets) burden) ≡ base_of (bare_load r (length presets))
  unfolding load_of
  same_base = ap (λ (n : ℕ). base_of (bare_load r n)) same_length

  pub least_within : (weight : ℕ) → base_of (load_of r change (in_order presets) burden) + coins_weight (in_order presets) ≤ weight → least_vsize r presets ≤ vsize_of weight
  unfolding least_vsize
  least_within weight le =
      vsize_below (base_of (bare_load r (length presets)) + coins_weight presets) weight
      (subst (λ (n : ℕ). n + coins_weight presets ≤ weight) same_base (subst (λ (n : ℕ). base_of (load_of r change (in_order presets) burden) + n ≤ weight) same_weight le))

-- ---- the replacement

module _ (k : Chain) (r : PlainRequest) (f : PlainFunded) (held : IsChain k) (sound : book_fault k.book ≡ None) (clear : bump_fault_in k r ≡ None) (rules : IsPlan (plan_of k r)) (pays : PaysTheBurden (plan_of k r) f) (txid : List ℕ) (named : r.bump ≡ Some txid) where
  abbrev w : PlainWallet
  w = k.wallet

  abbrev h : History
  h = k.book

  abbrev view : PendingView
  view = view_of w h

  abbrev place : ℕ
  place = payment_place view r

  abbrev payment : Transaction
  payment = tx_at view place

  abbrev terms : PlainTerms
  terms = terms_of w h k.tip.height r

  book : IsBookOf w h
  book = held_book k held

  free : bump_fault_of w h r ≡ None
  free = fault_there k r txid named clear

  can : CanReplace w h r place
  can = bump_clear w h r held.rules txid named free

  -- each preset is spent by the payment
  own : All (λ (c : Candidate). Spends c.coin payment) terms.presets
  own =
      All-weaker (λ (c : Candidate). Spends c.coin payment × (facts_at w h k.tip.height r.rate c.coin ≡ Some c)) (λ (c : Candidate). Spends c.coin payment) (λ c both. both.0) terms.presets
      (preset_only w h k.tip.height r held.rules book sound)

  -- ---- the coins

  given : (plan_of k r).bump ≡ Some (bump_of terms)
  given = ap (λ (o : Option (List ℕ)). option_map bump_of (option_map (λ (t : List ℕ). terms) o)) named

  coins_are : coins_in (plan_of k r) ≡ terms.presets ++ terms.candidates
  coins_are = ap (λ (o : Option (List ℕ)). coins_with (option_map bump_of (option_map (λ (t : List ℕ). terms) o)) (candidates_by k r.rate (option_map (λ (t : List ℕ). terms) o))) named

  presets_are : presets_in (plan_of k r) ≡ in_order terms.presets
  presets_are = ap (λ (o : Option PlainBump). presets_by o (listed_in (plan_of k r))) given

  burden_is : burden_in (plan_of k r) ≡ terms.burden
  burden_is = ap burden_by given

  spent_from : All (Contains (terms.presets ++ terms.candidates)) f.coins
  spent_from = subst (λ (cs : List Candidate). All (Contains cs) f.coins) coins_are pays.coins

  presets_spent : All (Contains f.coins) terms.presets
  presets_spent =
      All-weaker (Contains (presets_in (plan_of k r))) (Contains f.coins) (λ c there. All-contains (Contains f.coins) (presets_in (plan_of k r)) c pays.presets there) terms.presets
      (replaced_among (plan_of k r) (bump_of terms) given rules)

  -- ---- what it evicts

  original_goes : (j : ℕ) → IsOriginal w h f j → GoesWith view place j
  original_goes j o =
      let c = o.1.0 in
      conflict_goes w h k.tip.height r txid held.rules book sound named free c (All-contains (Contains (terms.presets ++ terms.candidates)) f.coins c spent_from o.1.1) j o.0.0 o.0.1 o.1.2

  evicted_goes : (j : ℕ) → IsEvicted w h f j → GoesWith view place j
  evicted_goes j e =
      let g = original_goes e.1.0 e.1.1 in
      record { stands = e.0.0; descends = kin_then view e.1.2 g.descends; waits = e.0.1 }

  -- the payment itself spends a preset, of which there is one
  is_original : IsOriginal w h f place
  is_original =
      let o = can.reckoned.offered in
      let first = first_of terms.presets (preset_some w h k.tip.height r held.rules book sound txid named free) in
      ((o.named.stands, o.waits), (first.0, All-contains (Contains f.coins) terms.presets first.0 presets_spent first.1, All-contains (λ (c : Candidate). Spends c.coin payment) terms.presets first.0 own first.1))

  goes_evicted : (j : ℕ) → GoesWith view place j → IsEvicted w h f j
  goes_evicted j g = ((g.stands, g.waits), (place, is_original, g.descends))

  told_evicted : (j : ℕ) → Contains (pending_below view place) j ↔ IsEvicted w h f j
  told_evicted j = (
    λ there. goes_evicted j (heirs_told view held.rules.pending_distinct held.rules.parents place j there),
    λ e. heirs_back view held.rules.pending_distinct held.rules.parents place j (evicted_goes j e),
  )

  -- ---- what it spends

  spends_all : All (λ (x : TxIn). Any (λ (c : Candidate). c.coin ≡ x.prev) f.coins) payment.inputs
  spends_all =
      All-weaker (λ (x : TxIn). Any (λ (c : Candidate). c.coin ≡ x.prev) terms.presets) (λ (x : TxIn). Any (λ (c : Candidate). c.coin ≡ x.prev) f.coins)
      (λ x a. any_in (λ (c : Candidate). c.coin ≡ x.prev) terms.presets f.coins presets_spent a) payment.inputs (preset_spent w h k.tip.height r held.rules book sound txid named free)

  confirmed : All (IsConfirmedCoin h) terms.candidates
  unfolding terms_of
  confirmed = added_high w h k.tip.height r.rate held.rules book sound terms.presets terms.replaced

  from_where : (c : Candidate) → Contains terms.presets c ⊎ Contains terms.candidates c → IsConfirmedCoin h c ⊎ Spends c.coin payment
  from_where c (inl preset) = inr (All-contains (λ (c : Candidate). Spends c.coin payment) terms.presets c own preset)
  from_where c (inr more) = inl (All-contains (IsConfirmedCoin h) terms.candidates c confirmed more)

  inputs_are : All (λ (c : Candidate). IsConfirmedCoin h c ⊎ Spends c.coin payment) f.coins
  inputs_are =
      All-weaker (Contains (terms.presets ++ terms.candidates)) (λ (c : Candidate). IsConfirmedCoin h c ⊎ Spends c.coin payment)
      (λ c there. from_where c (Contains-append_cases terms.presets terms.candidates c there)) f.coins spent_from

  -- ---- what it pays

  abbrev size : ℕ
  size = vsize_of f.weight

  large : least_vsize r terms.presets ≤ size
  large =
      let apart = (presets_alone_fit w h k.tip.height r held.rules book sound).distinct in
      let weighs = pays.weight in
      let as_ordered : base_of (load_of r k.wallet.change (in_order terms.presets) (burden_in (plan_of k r))) + coins_weight (in_order terms.presets) ≤ f.weight =
      subst (λ (cs : List Candidate). base_of (load_of r k.wallet.change cs (burden_in (plan_of k r))) + coins_weight cs ≤ f.weight) presets_are weighs in
      least_within r k.wallet.change (burden_in (plan_of k r)) terms.presets apart f.weight as_ordered

  paid : outputs_of r f.change + terms.burden + fee_of r.rate size ≤ value_of f.coins
  paid = subst (λ (n : ℕ). outputs_of r f.change + n + fee_of r.rate size ≤ value_of f.coins) burden_is pays.fee

  pays_more : outputs_of r f.change + fees_in h (replaced_at view place) + fee_of incremental size < value_of f.coins
  pays_more = let more = pays_fees w h k.tip.height r txid held.rules named free size large in let all = paid in omega (arith, more, all)

  some_size : 0 < size
  some_size =
      let weighs = pays.weight in
      let holds = (vsize_least f.weight).holds in
      omega (arith, weighs, holds)

  pays_higher : fee_in h (replaced_at view place) payment * size < (value_of f.coins - outputs_of r f.change) * vsize_of (weight_of payment)
  unfolding terms_of
  pays_higher =
      let all = paid in
      pays_rate w h k.tip.height r txid held.rules named free (value_of f.coins - outputs_of r f.change) size some_size (omega (arith, all))

  replaces : Replaces w h r f
  replaces = record {
    place = place;
    named = can.reckoned.offered.named;
    waits = can.reckoned.offered.waits;
    known = can.reckoned.known;
    spends = spends_all;
    evicted = λ j. (evicted_goes j, goes_evicted j);
    told = told_evicted;
    signals = λ j o. signals_too view place j can.reckoned.offered.signals (original_goes j o);
    inputs = inputs_are;
    fee = pays_more;
    few = can.few;
    higher = pays_higher;
  }

pub replaces_paid : (k : Chain) (r : PlainRequest) (f : PlainFunded) → IsChain k → book_fault k.book ≡ None → bump_fault_in k r ≡ None → IsPlan (plan_of k r) → PaysTheBurden (plan_of k r) f → ReplacesIf k.wallet k.book r f
replaces_paid k r f held sound clear rules pays txid named = replaces k r f held sound clear rules pays txid named

-- each payment of a plan does
pays_burden : (p : PlainPlan) (f : PlainFunded) → IsPlan p → IsPayment p f → PaysTheBurden p f
pays_burden p f h a =
    let all = burden_paid p f a in
    record { coins = a.candidates; presets = a.presets; fee = omega (arith, all); weight = burden_weight p f h a }

pub replaces_named : (k : Chain) (r : PlainRequest) (f : PlainFunded) → IsChain k → book_fault k.book ≡ None → bump_fault_in k r ≡ None → IsPlan (plan_of k r) → IsPayment (plan_of k r) f → ReplacesIf k.wallet k.book r f
replaces_named k r f held sound clear rules pays = replaces_paid k r f held sound clear rules (pays_burden (plan_of k r) f rules pays)
