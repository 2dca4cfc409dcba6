-- A wide selection of a row's pool is a payment.
use Rattle.std.specs.Prelude.{ℕ, ℤ, pos, ◌≡◌, ◌≢◌, ◌≤◌, ◌<◌, ◌≤ℤ◌, ◌+◌, ◌-◌, ◌+ℤ◌, ◌-ℤ◌, ◌==◌, Bool, false, List, [], ◌∷◌, All, Contains, length, slice_index_or, sum_by, unsigned_abs, None}
use Rattle.std.specs.Int.Signed.{pos-nat_abs, yes_non_neg}
use Rattle.std.proofs.Common.{sym, ap, subst, inl, inr, arith}
use Rattle.std.proofs.lemmas.Bool.{cases_Bool, eqb-true}
use Rattle.std.proofs.lemmas.Int.{ints}
use Rattle.std.proofs.lemmas.List.{length-append}
use Rattle.std.proofs.lemmas.List.Elements.{All-append, All-contains, All-head, All-weaker, Contains-append_left, Contains-get_or}
use Rattle.std.proofs.lemmas.List.Sums.{sum_by-cons}
use Rattle.closing_log.specs.declared.log.Stage.TheVariants as stage
use Rattle.closing_log.specs.declared.mark.Mark.{Mark}
use Rattle.coin_candidates.specs.Candidates.{IsCandidate}
use Rattle.coin_candidates.specs.declared.candidate.Candidate.{Candidate}
use Rattle.fee_rates.specs.Terms.{base_of, change_fee_of, change_least_of, hi_of, target_of, terms_of}
use Rattle.request_text.specs.PlainRequest.{paid_to}
use Rattle.output_groups.proofs.Members.{all_from}
use Rattle.output_groups.specs.Measures.{IsGroup, charge_of, gain}
use Rattle.output_groups.specs.declared.rows.Row.{Row}
use Rattle.pick_problem.specs.Problem.{PlainProblem, Rising, value_of as value_at, weight_of as weight_at}
use Rattle.fund_steps.specs.Amounts.{AreWithin, charges_of, value_of, weight_of}
use Rattle.fund_steps.specs.Listed.{burden_in, presets_in}
use Rattle.fund_steps.specs.Plan.{IsPlan, PlainPlan, coins_in}
use Rattle.fund_steps.specs.Terms.{load_of, rates_of}
use Rattle.fund_steps.proofs.BumpLaws.{coins_each, in_order_all}
use Rattle.fund_steps.proofs.SelectionLaws.{in_order_keeps, in_order_sorted}
use Rattle.fund_plan.specs.Answer.{IsAtHandBy, IsPayment, IsSelection}
use Rattle.fund_plan.specs.Chosen.{chosen_at, coins_at, load_by, load_for, members, row_of}
use Rattle.fund_plan.specs.Figures.{waste_of}
use Rattle.fund_plan.specs.Pays.{Pays, payment_from, payment_of, payment_weight, raised_of}
use Rattle.fund_plan.specs.Steps.{is_given, load_in, pool_in, problem_at}
use Rattle.fund_plan.proofs.BringLaws.{base_fee, gains_are, groups_in, items_in, short_of, some_target, target_in, values_are, weights_are}
use Rattle.fund_plan.proofs.FoundLaws.{all_of, chosen_fit, reachable, reached, spent, together, useful_in}
use Rattle.fund_plan.proofs.PaysLaws.{pays_without, selection_is}
use Rattle.fund_plan.proofs.RowLaws.{items_of}
use Rattle.fund_plan.proofs.SpendLaws.{members_grouped, ones, order_sum, some_sum}
use Rattle.fund_plan.proofs.WeightLaws.{coins_weigh}
use Rattle.wide_check.specs.Wide.{IsWide}
use Rattle.wide_plan.specs.Payments.{CanPay}
use Rattle.wide_plan.specs.Run.{paid_at}
use Rattle.wide_plan.proofs.StepLaws.{not_given}

-- ---- what pays, at plain numbers

within : (paid base burden raised value fees bring cf cl worth costs vc fc : ℕ) → bring + costs ≡ worth → vc ≡ value + worth → fc ≡ fees + costs → short_of paid base burden raised value fees ≤ℤ pos bring
    → pos bring ≤ℤ ((short_of paid base burden raised value fees +ℤ pos cf +ℤ pos cl) -ℤ pos 1) → (paid + base + fc + burden + raised ≤ vc) × (vc + 1 ≤ paid + base + fc + burden + raised + cf + cl)
within paid base burden raised value fees bring cf cl worth costs vc fc is v f low high = (omega (arith, ints), omega (arith, ints))

capped : (t : ℤ) (v : ℕ) → pos 0 ≤ℤ t → v ≤ unsigned_abs t → pos v ≤ℤ t
capped t v some high = let e = pos-nat_abs t (yes_non_neg some) in omega (arith, ints, e)

-- what brings something weighs something
weigh_some : (rate : ℕ) (coins : List Candidate) → All IsCandidate coins → 1 ≤ sum_by (gain rate) coins → 1 ≤ weight_of coins
weigh_some rate [] fit some = absurd (omega (arith, some))
weigh_some rate (c ∷ cs) fit some = omega (arith, (All-head IsCandidate c cs fit).least_weight, sum_by-cons (λ (x : Candidate). x.weight) c cs)

-- ---- a selection of a row

-- what its coins bring, and what they weigh
record Brings (p : PlainPlan) (row : Row) (places : List ℕ) (x : PlainProblem) : Type 0 where
  value : value_at x places ≡ sum_by (gain p.request.rate) (chosen_at p row places)
  weight : weight_at x places ≡ weight_of (chosen_at p row places)
  worth : sum_by (gain p.request.rate) (chosen_at p row places) + charges_of p.request.rate (chosen_at p row places) ≡ value_of (chosen_at p row places)

module _ (p : PlainPlan) (row : Row) (places : List ℕ) (h : IsPlan p) (e : is_given p ≡ false) (wide : IsWide (problem_at p row stage.Changeless) places) where
  pub wide_rises : Rising (length (pool_in p row).groups) 0 places
  wide_rises = subst (λ (n : ℕ). Rising n 0 places) (items_of p row) wide.rising

  brings : Brings p row places (problem_at p row stage.Changeless)
  brings = record {
    value = values_are p.request.rate p.request.long_term 0 (pool_in p row).groups (problem_at p row stage.Changeless) places (items_in p row) wide_rises;
    weight = weights_are p.request.rate p.request.long_term 0 (pool_in p row).groups (problem_at p row stage.Changeless) places (items_in p row) wide_rises;
    worth = gains_are p.request.rate (chosen_at p row places) (useful_in p row places h wide_rises);
  }

  pub wide_pays : Pays p.request p.change (load_in p row) (coins_at p row places) None (payment_from p.request p.change (coins_at p row places) None)
  unfolding load_of terms_of
  wide_pays =
      let r = p.request in
      let l = load_in p row in
      let given = presets_in p in
      let chosen = chosen_at p row places in
      let coins = coins_at p row places in
      let target = target_of (rates_of r) l in
      let hi = hi_of (rates_of r) l in
      let by = brings in
      let v = sum_by (gain r.rate) chosen in
      let some = some_target p row e in
      let low : target ≤ℤ pos v = reached target v (omega (arith, ints, some)) (omega (arith, wide.reaches, by.value)) in
      let above : pos 0 ≤ℤ hi = omega (arith, ints, some) in
      let high : pos v ≤ℤ hi = capped hi v above (omega (arith, wide.under, by.value)) in
      let value = together (λ (c : Candidate). c.value) p row places h wide_rises in
      let fees = together (charge_of r.rate) p row places h wide_rises in
      let weight = together (λ (c : Candidate). c.weight) p row places h wide_rises in
      let cf = change_fee_of (rates_of r) l in
      let cl = change_least_of (rates_of r) l in
      let is = target_in p row (reachable target v (value_of chosen) (charges_of r.rate chosen) low by.worth (chosen_fit p row places h wide_rises).value) in
      let balance =
      within (paid_to r.recipients) (base_fee p row) (burden_in p) (raised_of r.rate l) (value_of given) (charges_of r.rate given) v cf cl (value_of chosen) (charges_of r.rate chosen) (value_of coins) (charges_of r.rate coins) by.worth value fees
      (subst (λ (t : ℤ). t ≤ℤ pos v) is low)
      (subst (λ (t : ℤ). pos v ≤ℤ ((t +ℤ pos cf +ℤ pos cl) -ℤ pos 1)) is high)
      in
      let one : 1 ≤ weight_of chosen = weigh_some r.rate chosen (chosen_fit p row places h wide_rises).each (omega (arith, ints, some, low)) in
      let light : weight_of chosen ≤ 400_000 - base_of l - weight_of given = omega (arith, wide.light, by.weight) in
      pays_without r p.change l coins (in_order_sorted (all_of p row places)) balance (omega (arith, light, one, weight))

  -- the coins are within their bounds
  pub wide_fits : AreWithin (coins_at p row places)
  wide_fits =
      let s = spent p row places h wide_rises in
      let all = all_of p row places in
      let whole : All IsCandidate all = All-weaker (Contains (coins_in p)) IsCandidate (λ c there. All-contains IsCandidate (coins_in p) c (coins_each p h) there) all s.held in
      let each : All IsCandidate (coins_at p row places) = in_order_keeps IsCandidate all whole in
      let pays = wide_pays in
      let light : weight_of (coins_at p row places) ≤ 400_000 = omega (arith, pays.weight) in
      record {
        each = each;
        count = omega (arith, light, coins_weigh (coins_at p row places) each);
        value = omega (arith, h.within, some_sum (λ (c : Candidate). c.value) all (coins_in p) s.apart s.held, order_sum (λ (c : Candidate). c.value) all s.apart);
      }

none_zero : (n : ℕ) → n ≢ 0 → (n == 0) ≡ false
none_zero n some = elim (cases_Bool (n == 0)) as (λ _. (n == 0) ≡ false) [
  | inl is ↦ absurd (some (eqb-true n 0 is))
  | inr fails ↦ fails
]

some_members : (rate : ℕ) (groups : List (List Candidate)) (t : ℕ) (places : List ℕ) → All (IsGroup rate) groups → Rising (length groups) t places → 0 < length places → 0 < length (members groups places)
some_members rate groups t [] fit rising some = absurd (omega (arith, some))
some_members rate groups t (j ∷ places) fit rising some =
    let first = All-contains (IsGroup rate) groups (slice_index_or groups j []) fit (Contains-get_or groups j [] rising.1) in
    omega (arith, first.some, length-append (slice_index_or groups j []) (members groups places))

module _ (p : PlainPlan) (mark : Mark) (number : ℕ) (places : List ℕ) (h : IsPlan p) (can : CanPay p number places) where
  abbrev row : Row
  row = row_of p number

  searched : is_given p ≡ false
  searched = not_given p can.plain can.asked

  rises : Rising (length (pool_in p row).groups) 0 places
  rises = wide_rises p row places h searched can.wide

  pub paid_pays : IsPayment p (paid_at p mark number places)
  paid_pays =
      let s = spent p row places h rises in
      let all = all_of p row places in
      let coins = coins_at p row places in
      let none : false ≡ (number == 0) = sym (none_zero number can.named) in
      let there = in_order_all all s.apart in
      let hand : Candidate → Type 0 = IsAtHandBy p false number in
      let given : All hand (presets_in p) = all_from hand (presets_in p) (λ c held. inl held) in
      let others : All hand (chosen_at p row places) =
      All-weaker (λ (c : Candidate). (g : List Candidate) × Contains (pool_in p row).groups g × Contains g c) hand (λ c in_group. inr in_group) (chosen_at p row places) (members_grouped (pool_in p row).groups 0 places rises) in
      record {
        candidates = in_order_keeps (Contains (coins_in p)) all s.held;
        presets = all_from (Contains coins) (presets_in p) (λ c held. All-contains (Contains coins) all c there (Contains-append_left (presets_in p) (chosen_at p row places) c held));
        at_hand = subst (λ (b : Bool). All (IsAtHandBy p b number) coins) none (in_order_keeps hand all (All-append hand (presets_in p) (chosen_at p row places) given others));
        coins = wide_fits p row places h searched can.wide;
        pays = subst (λ (b : Bool). Pays p.request p.change (load_by p b number) coins None (payment_from p.request p.change coins None)) none (wide_pays p row places h searched can.wide);
        weight_is = ap (λ (b : Bool). payment_weight (load_by p b number) coins None) none;
        waste_is = ap (λ (b : Bool). waste_of p.request (load_by p b number) coins None) none;
      }

  pub paid_selects : IsSelection p.request (paid_at p mark number places)
  paid_selects =
      let a = paid_pays in
      let chosen = chosen_at p row places in
      let some = some_members p.request.rate (pool_in p row).groups 0 places (groups_in p row h) rises can.wide.some in
      let all = together (λ (c : Candidate). 1) p row places h rises in
      selection_is p.request p.change (load_for p number) (paid_at p mark number places) (payment_of p.request p.change (paid_at p mark number places)) a.coins
      (omega (arith, some, all, ones chosen, ones (coins_at p row places)))
      a.pays
