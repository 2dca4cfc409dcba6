-- A result of a step, with the presets, is a payment.
use Rattle.std.specs.Prelude.{ℕ, ℤ, pos, ◌≡◌, ◌≢◌, ◌≤◌, ◌≤ℤ◌, ◌+◌, ◌-◌, ◌*◌, ◌+ℤ◌, ◌-ℤ◌, ◌==◌, not, Bool, true, false, List, [], ◌∷◌, ◌++◌, All, Contains, length, max, sum_by, get_or, unsigned_abs, Option, Some, None}
use Rattle.std.specs.Int.Signed.{pos-nat_abs, yes_non_neg}
use Rattle.std.specs.declared.cmp.Ordering.TheVariants.{Less}
use Rattle.std.proofs.Common.{refl, sym, ap, subst, ◌∙◌, inl, inr, arith}
use Rattle.std.proofs.lemmas.Bool.{cases_Bool, eqb-true}
use Rattle.std.proofs.lemmas.Int.{ints}
use Rattle.std.proofs.lemmas.List.Elements.{All-append, All-contains, All-contains_itself, All-filter, All-head, All-tail, All-weaker, Contains-append_left}
use Rattle.std.proofs.lemmas.List.Sums.{sum_by-append, sum_by-cons}
use Rattle.std.specs.Ordering.{ordering_reverse}
use Rattle.fund_base.proofs.OutpointLaws.{outpoint_total}
use Rattle.coin_candidates.specs.Candidates.{IsCandidate}
use Rattle.fund_base.specs.Outpoints.{outpoint_cmp}
use Rattle.fund_base.specs.declared.outpoint.OutPoint.{OutPoint}
use Rattle.coin_candidates.specs.declared.candidate.Candidate.{Candidate}
use Rattle.fee_rates.specs.declared.terms.PaymentLoad.{PaymentLoad}
use Rattle.fee_rates.specs.Terms.{base_of, big_of, change_fee_of, change_least_of, change_limit_of, hi_of, small_of, target_of, terms_of}
use Rattle.request_text.specs.PlainRequest.{paid_to}
use Rattle.output_groups.proofs.Members.{all_from}
use Rattle.output_groups.specs.Measures.{IsGroup, charge_of, gain, is_useful}
use Rattle.output_groups.specs.declared.rows.Row.{Row}
use Rattle.pick_problem.specs.Problem.{PlainProblem, Rising, value_of as value_at, weight_of as weight_at}
use Rattle.pick_problem.specs.declared.item.Item.{Item}
use Rattle.closing_log.specs.declared.log.Stage.{Stage}
use Rattle.closing_log.specs.declared.log.Stage.TheVariants as stage
use Rattle.closing_log.specs.declared.mark.Mark.{Mark}
use Rattle.pick_problem.specs.Admissible.{IsAdmissible}
use Rattle.search_run.specs.Found.{IsResultOf, PlainFound}
use Rattle.fund_plan.specs.Answer.{IsAtHandBy, IsPayment}
use Rattle.fund_plan.specs.Figures.{waste_of}
use Rattle.fund_steps.specs.Amounts.{AreWithin, charges_of, value_of, weight_of}
use Rattle.fund_steps.specs.Listed.{burden_in, presets_in}
use Rattle.fund_steps.specs.Plan.{IsPlan, PlainPlan, coins_in, ladder_in}
use Rattle.fund_steps.specs.Terms.{load_of, rates_of}
use Rattle.fund_steps.specs.Selection.{AreSorted, is_listed, unlisted}
use Rattle.fund_steps.proofs.BumpLaws.{candidate_in, candidates_worth, coins_each, in_order_all, presets_apart, presets_are, presets_held, presets_sorted}
use Rattle.fund_steps.proofs.SelectionLaws.{in_order_keeps, in_order_sorted}
use Rattle.fund_plan.specs.Chosen.{change_at, chosen_at, coins_at, funded_at, left_of, load_by, row_of}
use Rattle.fund_plan.specs.Pays.{Pays, payment_from, payment_weight, raised_of}
use Rattle.fund_plan.specs.Steps.{is_given, load_in, pool_in, problem_at, steps_of}
use Rattle.fund_plan.proofs.RowLaws.{found_in, items_of}
use Rattle.fund_plan.proofs.PaysLaws.{pays_with, pays_without}
use Rattle.fund_plan.proofs.SpendLaws.{AreApart, apart_both, members_apart, members_grouped, members_held, order_sum, some_count, some_sum}
use Rattle.fund_plan.proofs.BringLaws.{base_fee, gains_are, groups_in, items_in, once_in, short_of, some_target, target_in, values_are, weights_are}

-- ---- what pays, at plain numbers

within : (paid base burden raised value fees bring cf cl worth costs vc fc : ℕ) → bring + costs ≡ worth → vc ≡ value + worth → fc ≡ fees + costs → short_of paid base burden raised value fees ≤ℤ pos bring
    → pos bring ≤ℤ ((short_of paid base burden raised value fees +ℤ pos cf +ℤ pos cl) -ℤ pos 1) → (paid + base + fc + burden + raised ≤ vc) × (vc + 1 ≤ paid + base + fc + burden + raised + cf + cl)
within paid base burden raised value fees bring cf cl worth costs vc fc is v f low high = (omega (arith, ints), omega (arith, ints))

beyond : (paid base burden raised value fees bring cf cl worth costs vc fc change : ℕ) → bring + costs ≡ worth → vc ≡ value + worth → fc ≡ fees + costs → pos change ≡ ((pos worth -ℤ pos costs) -ℤ short_of paid base burden raised value fees) -ℤ pos cf
    → (short_of paid base burden raised value fees +ℤ pos cf +ℤ pos cl) ≤ℤ pos bring → (vc ≡ paid + change + base + fc + burden + raised + cf) × (cl ≤ change)
beyond paid base burden raised value fees bring cf cl worth costs vc fc change is v f e high = (omega (arith, ints), omega (arith, ints))

left_some : (bring cf cl worth costs : ℕ) (short : ℤ) → bring + costs ≡ worth → (short +ℤ pos cf +ℤ pos cl) ≤ℤ pos bring → pos 0 ≤ℤ (((pos worth -ℤ pos costs) -ℤ short) -ℤ pos cf)
left_some bring cf cl worth costs short is high = omega (arith, ints)

-- what is brought is within what all coins are worth
pub reachable : (t : ℤ) (bring worth costs : ℕ) → t ≤ℤ pos bring → bring + costs ≡ worth → worth ≤ 2_100_000_000_000_000 → t ≤ℤ pos 2_100_000_000_000_000
reachable t bring worth costs low is most = omega (arith, ints, low, is, most)

before_change : (t : ℤ) (bring cf cl : ℕ) → (t +ℤ pos cf +ℤ pos cl) ≤ℤ pos bring → t ≤ℤ pos bring
before_change t bring cf cl h = omega (arith, ints, h)

pub reached : (t : ℤ) (v : ℕ) → pos 0 ≤ℤ t → unsigned_abs t ≤ v → t ≤ℤ pos v
reached t v some low = let e = pos-nat_abs t (yes_non_neg some) in omega (arith, ints, e)

capped : (t : ℤ) (v : ℕ) → pos 0 ≤ℤ t → v ≤ unsigned_abs t → pos v ≤ℤ t
capped t v some high = let e = pos-nat_abs t (yes_non_neg some) in omega (arith, ints, e)

-- what brings something weighs something
weigh_some : (rate : ℕ) (coins : List Candidate) → All IsCandidate coins → 1 ≤ sum_by (gain rate) coins → 1 ≤ weight_of coins
weigh_some rate [] fit some = absurd (omega (arith, some))
weigh_some rate (c ∷ cs) fit some = omega (arith, (All-head IsCandidate c cs fit).least_weight, sum_by-cons (λ (x : Candidate). x.weight) c cs)

-- ---- presets and chosen coins

same_less : (a : OutPoint) → outpoint_cmp a a ≡ Less → ⊥
same_less a up = let e = sym up ∙ outpoint_total.antisymm a a ∙ ap ordering_reverse up in absurd (cc)

pub sorted_apart : (coins : List Candidate) → AreSorted coins → AreApart coins
sorted_apart coins h i j d up below same = same_less (get_or coins j d).coin (subst (λ (q : OutPoint). outpoint_cmp q (get_or coins j d).coin ≡ Less) same (h i j d up below))

-- the coins of a payment, before they are put in order
abbrev pub all_of : PlainPlan → Row → List ℕ → List Candidate
all_of p row places = presets_in p ++ chosen_at p row places

pub record IsSpent (p : PlainPlan) (row : Row) (places : List ℕ) : Type 0 where
  pub apart : AreApart (all_of p row places)
  pub held : All (Contains (coins_in p)) (all_of p row places)
  pub chosen_apart : AreApart (chosen_at p row places)
  pub chosen_held : All (Contains p.candidates) (chosen_at p row places)

pub spent : (p : PlainPlan) (row : Row) (places : List ℕ) → IsPlan p → Rising (length (pool_in p row).groups) 0 places → IsSpent p row places
spent p row places h rising =
    let rest = unlisted p.request.coins p.candidates in
    let unlisted_by : Candidate → Bool = λ c. not (is_listed p.request.coins c.coin) in
    let groups = (pool_in p row).groups in
    let once = once_in p row h in
    let mine : AreApart (chosen_at p row places) = members_apart rest groups 0 places once rising in
    let in_rest : All (Contains rest) (chosen_at p row places) = members_held rest groups 0 places once rising in
    let from_rest : All (Contains p.candidates) rest = All-filter unlisted_by (Contains p.candidates) p.candidates (All-contains_itself p.candidates) in
    let chosen : All (Contains p.candidates) (chosen_at p row places) = All-weaker (Contains rest) (Contains p.candidates) (λ c there. All-contains (Contains p.candidates) rest c from_rest there) (chosen_at p row places) in_rest in
    let among : All (Contains (coins_in p)) (chosen_at p row places) = All-weaker (Contains p.candidates) (Contains (coins_in p)) (candidate_in p.bump p.candidates) (chosen_at p row places) chosen in
    let cross : (a b : Candidate) → Contains (presets_in p) a → Contains (chosen_at p row places) b → a.coin ≢ b.coin =
    λ a b first second. presets_apart p a b h first (All-contains (Contains rest) (chosen_at p row places) b in_rest second) in
    record {
      apart = apart_both (presets_in p) (chosen_at p row places) (sorted_apart (presets_in p) (presets_sorted p (presets_in p) (presets_are p h))) mine cross;
      held = All-append (Contains (coins_in p)) (presets_in p) (chosen_at p row places) (presets_held p h) among;
      chosen_apart = mine;
      chosen_held = chosen;
    }

-- candidates that stand apart are within their bounds
pub fit_of : (p : PlainPlan) (coins : List Candidate) → IsPlan p → AreApart coins → All (Contains p.candidates) coins → AreWithin coins
fit_of p coins h apart held = record {
  each = All-weaker (Contains p.candidates) IsCandidate (λ c there. All-contains IsCandidate p.candidates c h.candidates.each there) coins held;
  count = omega (arith, some_count coins p.candidates apart held, h.candidates.count);
  value = omega (arith, some_sum (λ (c : Candidate). c.value) coins p.candidates apart held, h.within, candidates_worth p.bump p.candidates);
}

pub chosen_fit : (p : PlainPlan) (row : Row) (places : List ℕ) → IsPlan p → Rising (length (pool_in p row).groups) 0 places → AreWithin (chosen_at p row places)
chosen_fit p row places h rising = let s = spent p row places h rising in fit_of p (chosen_at p row places) h s.chosen_apart s.chosen_held

-- coins weigh something each
weighed_count : (coins : List Candidate) → All IsCandidate coins → 165 * length coins ≤ weight_of coins
weighed_count [] fit = omega arith
weighed_count (c ∷ cs) fit =
    let first = (All-head IsCandidate c cs fit).least_weight in
    omega (arith, first, weighed_count cs (All-tail IsCandidate c cs fit), sum_by-cons (λ (x : Candidate). x.weight) c cs)

-- so those of a payment are within their bounds
coins_fit : (p : PlainPlan) (row : Row) (places : List ℕ) → IsPlan p → Rising (length (pool_in p row).groups) 0 places → weight_of (coins_at p row places) ≤ 400_000 → AreWithin (coins_at p row places)
coins_fit p row places h rising light =
    let s = spent p row places h rising in
    let all = all_of p row places in
    let whole : All IsCandidate all = All-weaker (Contains (coins_in p)) IsCandidate (λ c there. All-contains IsCandidate (coins_in p) c (coins_each p h) there) all s.held in
    let each : All IsCandidate (coins_at p row places) = in_order_keeps IsCandidate all whole in
    record {
      each = each;
      count = omega (arith, light, weighed_count (coins_at p row places) each);
      value = omega (arith, h.within, some_sum (λ (c : Candidate). c.value) all (coins_in p) s.apart s.held, order_sum (λ (c : Candidate). c.value) all s.apart);
    }

-- what they come to together
pub together : (f : Candidate → ℕ) (p : PlainPlan) (row : Row) (places : List ℕ) → IsPlan p → Rising (length (pool_in p row).groups) 0 places → sum_by f (coins_at p row places) ≡ sum_by f (presets_in p) + sum_by f (chosen_at p row places)
together f p row places h rising =
    let s = spent p row places h rising in
    omega (arith, order_sum f (all_of p row places) s.apart, sum_by-append f (presets_in p) (chosen_at p row places))

-- ---- they pay

-- what chosen coins bring, and what they weigh
record Brings (p : PlainPlan) (row : Row) (places : List ℕ) (x : PlainProblem) : Type 0 where
  value : value_at x places ≡ sum_by (gain p.request.rate) (chosen_at p row places)
  weight : weight_at x places ≡ weight_of (chosen_at p row places)
  worth : sum_by (gain p.request.rate) (chosen_at p row places) + charges_of p.request.rate (chosen_at p row places) ≡ value_of (chosen_at p row places)

pub useful_in : (p : PlainPlan) (row : Row) (places : List ℕ) → IsPlan p → Rising (length (pool_in p row).groups) 0 places → All (λ c. is_useful p.request.rate c ≡ true) (chosen_at p row places)
useful_in p row places h rising =
    let groups = (pool_in p row).groups in
    let P : Candidate → Type 0 = λ c. is_useful p.request.rate c ≡ true in
    All-weaker (λ (c : Candidate). (g : List Candidate) × Contains groups g × Contains g c) P
    (λ c at. All-contains P at.0 c (All-contains (IsGroup p.request.rate) groups at.0 (groups_in p row h) at.1).useful at.2) (chosen_at p row places) (members_grouped groups 0 places rising)

brings : (p : PlainPlan) (row : Row) (places : List ℕ) (x : PlainProblem) → IsPlan p → Rising (length (pool_in p row).groups) 0 places → x.items ≡ (pool_in p row).items → Brings p row places x
brings p row places x h rising is =
    let items = is ∙ items_in p row in
    record {
      value = values_are p.request.rate p.request.long_term 0 (pool_in p row).groups x places items rising;
      weight = weights_are p.request.rate p.request.long_term 0 (pool_in p row).groups x places items rising;
      worth = gains_are p.request.rate (chosen_at p row places) (useful_in p row places h rising);
    }

pays_plainly : (p : PlainPlan) (row : Row) (places : List ℕ) → IsPlan p → is_given p ≡ false → Rising (length (pool_in p row).groups) 0 places → IsAdmissible (problem_at p row stage.Changeless) places
    → Pays p.request p.change (load_in p row) (coins_at p row places) None (payment_from p.request p.change (coins_at p row places) None)
unfolding load_of terms_of
pays_plainly p row places h e rising adm =
    let r = p.request in
    let l = load_in p row in
    let given = presets_in p in
    let chosen = chosen_at p row places in
    let coins = coins_at p row places in
    let target = target_of (rates_of r) l in
    let hi = hi_of (rates_of r) l in
    let by = brings p row places (problem_at p row stage.Changeless) h rising refl in
    let v = sum_by (gain r.rate) chosen in
    let some = some_target p row e in
    let low : target ≤ℤ pos v = reached target v (omega (arith, ints, some)) (omega (arith, adm.reaches, by.value)) in
    let above : pos 0 ≤ℤ hi = omega (arith, ints, some) in
    let high : pos v ≤ℤ hi = capped hi v above (omega (arith, adm.fits.0, by.value)) in
    let value = together (λ (c : Candidate). c.value) p row places h rising in
    let fees = together (charge_of r.rate) p row places h rising in
    let weight = together (λ (c : Candidate). c.weight) p row places h rising in
    let cf = change_fee_of (rates_of r) l in
    let cl = change_least_of (rates_of r) l in
    let is = target_in p row (reachable target v (value_of chosen) (charges_of r.rate chosen) low by.worth (chosen_fit p row places h rising).value) in
    let balance =
    within (paid_to r.recipients) (base_fee p row) (burden_in p) (raised_of r.rate l) (value_of given) (charges_of r.rate given) v cf cl (value_of chosen) (charges_of r.rate chosen) (value_of coins) (charges_of r.rate coins) by.worth value fees
    (subst (λ (t : ℤ). t ≤ℤ pos v) is low)
    (subst (λ (t : ℤ). pos v ≤ℤ ((t +ℤ pos cf +ℤ pos cl) -ℤ pos 1)) is high)
    in
    let one : 1 ≤ weight_of chosen = weigh_some r.rate chosen (chosen_fit p row places h rising).each (omega (arith, ints, some, low)) in
    let light : weight_of chosen ≤ 400_000 - base_of l - weight_of given = omega (arith, adm.light, by.weight) in
    pays_without r p.change l coins (in_order_sorted (all_of p row places)) balance (omega (arith, light, one, weight))

pays_changed : (p : PlainPlan) (row : Row) (places : List ℕ) → IsPlan p → Rising (length (pool_in p row).groups) 0 places → (low : small_of (rates_of p.request) (load_in p row) ≤ℤ pos (sum_by (gain p.request.rate) (chosen_at p row places)))
    → is_given p ≡ false → weight_of (chosen_at p row places) ≤ change_limit_of (load_in p row)
    → Pays p.request p.change (load_in p row) (coins_at p row places) (Some (left_of p.request (load_in p row) (chosen_at p row places))) (payment_from p.request p.change (coins_at p row places) (Some (left_of p.request (load_in p row) (chosen_at p row places))))
unfolding load_of
pays_changed p row places h rising low e light =
    let r = p.request in
    let l = load_in p row in
    let given = presets_in p in
    let chosen = chosen_at p row places in
    let coins = coins_at p row places in
    let target = target_of (rates_of r) l in
    let v = sum_by (gain r.rate) chosen in
    let worth = gains_are r.rate chosen (useful_in p row places h rising) in
    let some = some_target p row e in
    let value = together (λ (c : Candidate). c.value) p row places h rising in
    let fees = together (charge_of r.rate) p row places h rising in
    let weight = together (λ (c : Candidate). c.weight) p row places h rising in
    let cf = change_fee_of (rates_of r) l in
    let cl = change_least_of (rates_of r) l in
    let amount = left_of r l chosen in
    let is : pos amount ≡ ((pos (value_of chosen) -ℤ pos (charges_of r.rate chosen)) -ℤ target) -ℤ pos cf =
    pos-nat_abs (((pos (value_of chosen) -ℤ pos (charges_of r.rate chosen)) -ℤ target) -ℤ pos cf) (yes_non_neg (left_some v cf cl (value_of chosen) (charges_of r.rate chosen) target worth low)) in
    let below = target_in p row (reachable target v (value_of chosen) (charges_of r.rate chosen) (before_change target v cf cl low) worth (chosen_fit p row places h rising).value) in
    let rest =
    beyond (paid_to r.recipients) (base_fee p row) (burden_in p) (raised_of r.rate l) (value_of given) (charges_of r.rate given) v cf cl (value_of chosen) (charges_of r.rate chosen) (value_of coins) (charges_of r.rate coins) amount worth value fees
    (is ∙ ap (λ (t : ℤ). ((pos (value_of chosen) -ℤ pos (charges_of r.rate chosen)) -ℤ t) -ℤ pos cf) below)
    (subst (λ (t : ℤ). (t +ℤ pos cf +ℤ pos cl) ≤ℤ pos v) below low)
    in
    let one : 1 ≤ weight_of chosen = weigh_some r.rate chosen (chosen_fit p row places h rising).each (omega (arith, ints, some, low)) in
    let less : weight_of chosen ≤ 400_000 - base_of l - weight_of given - 4 * l.change_size = light in
    pays_with r p.change l coins amount (in_order_sorted (all_of p row places)) rest.0 rest.1 (omega (arith, less, one, weight))

-- a change of the size that is aimed at is no less than the least one
small_big : (p : PlainPlan) (row : Row) → small_of (rates_of p.request) (load_in p row) ≤ℤ big_of (rates_of p.request) (load_in p row)
small_big p row =
    let cl = change_least_of (rates_of p.request) (load_in p row) in
    let most : cl ≤ max p.request.change_target cl = omega arith in
    omega (arith, ints, most)

by_big : (p : PlainPlan) (row : Row) (places : List ℕ) → IsPlan p → is_given p ≡ false → Rising (length (pool_in p row).groups) 0 places → IsAdmissible (problem_at p row stage.LeanBig) places
    → Pays p.request p.change (load_in p row) (coins_at p row places) (Some (left_of p.request (load_in p row) (chosen_at p row places))) (payment_from p.request p.change (coins_at p row places) (Some (left_of p.request (load_in p row) (chosen_at p row places))))
unfolding terms_of
by_big p row places h e rising adm =
    let r = p.request in
    let l = load_in p row in
    let v = sum_by (gain r.rate) (chosen_at p row places) in
    let big = big_of (rates_of r) l in
    let by = brings p row places (problem_at p row stage.LeanBig) h rising refl in
    let order = small_big p row in
    let some : pos 0 ≤ℤ big = omega (arith, ints, some_target p row e, order) in
    let low : big ≤ℤ pos v = reached big v some (omega (arith, adm.reaches, by.value)) in
    pays_changed p row places h rising (omega (arith, ints, low, order)) e (omega (arith, adm.light, by.weight))

by_small : (p : PlainPlan) (row : Row) (places : List ℕ) → IsPlan p → is_given p ≡ false → Rising (length (pool_in p row).groups) 0 places → IsAdmissible (problem_at p row stage.LeanSmall) places
    → Pays p.request p.change (load_in p row) (coins_at p row places) (Some (left_of p.request (load_in p row) (chosen_at p row places))) (payment_from p.request p.change (coins_at p row places) (Some (left_of p.request (load_in p row) (chosen_at p row places))))
unfolding terms_of
by_small p row places h e rising adm =
    let r = p.request in
    let l = load_in p row in
    let v = sum_by (gain r.rate) (chosen_at p row places) in
    let small = small_of (rates_of r) l in
    let by = brings p row places (problem_at p row stage.LeanSmall) h rising refl in
    let some : pos 0 ≤ℤ small = omega (arith, ints, some_target p row e) in
    let low : small ≤ℤ pos v = reached small v some (omega (arith, adm.reaches, by.value)) in
    pays_changed p row places h rising low e (omega (arith, adm.light, by.weight))

pub pays_at : (p : PlainPlan) (row : Row) (s : Stage) (places : List ℕ) → IsPlan p → is_given p ≡ false → Rising (length (pool_in p row).groups) 0 places → IsAdmissible (problem_at p row s) places
    → Pays p.request p.change (load_in p row) (coins_at p row places) (change_at p row s places) (payment_from p.request p.change (coins_at p row places) (change_at p row s places))
pays_at p row stage.Changeless places h e rising adm = pays_plainly p row places h e rising adm
pays_at p row stage.LeanSmall places h e rising adm = by_small p row places h e rising adm
pays_at p row stage.Presets places h e rising adm = by_big p row places h e rising adm
pays_at p row stage.LeanBig places h e rising adm = by_big p row places h e rising adm
pays_at p row stage.Draw places h e rising adm = by_big p row places h e rising adm
pays_at p row stage.Wide places h e rising adm = by_big p row places h e rising adm

pub problem_items : (p : PlainPlan) (row : Row) (s : Stage) → (problem_at p row s).items ≡ (pool_in p row).items
problem_items p row stage.Changeless = refl
problem_items p row stage.LeanSmall = refl
problem_items p row stage.Presets = refl
problem_items p row stage.LeanBig = refl
problem_items p row stage.Draw = refl
problem_items p row stage.Wide = refl

-- a result, by the row and the stage that it names
pub record IsNamed (p : PlainPlan) (f : PlainFound) : Type 0 where
  pub searched : is_given p ≡ false
  pub some_row : (f.row == 0) ≡ false
  pub roomy : Contains (ladder_in p) (row_of p f.row)
  pub rising : Rising (length (pool_in p (row_of p f.row)).groups) 0 f.places
  pub admissible : IsAdmissible (problem_at p (row_of p f.row) f.stage) f.places

none_zero : (n : ℕ) → n ≢ 0 → (n == 0) ≡ false
none_zero n some = elim (cases_Bool (n == 0)) as (λ _. (n == 0) ≡ false) [
  | inl is ↦ absurd (some (eqb-true n 0 is))
  | inr fails ↦ fails
]

pub named : (p : PlainPlan) (f : PlainFound) → IsResultOf (steps_of p) f → IsNamed p f
named p f result =
    let at = found_in p f result in
    let row = row_of p f.row in
    let staged : IsAdmissible (problem_at p at.row f.stage) f.places = subst (λ (s : Stage). IsAdmissible (problem_at p at.row s) f.places) (sym at.stage_is) at.admissible in
    let here : IsAdmissible (problem_at p row f.stage) f.places = subst (λ (q : Row). IsAdmissible (problem_at p q f.stage) f.places) (sym at.row_is) staged in
    let count : length (problem_at p row f.stage).items ≡ length (pool_in p row).groups = ap (λ (xs : List Item). length xs) (problem_items p row f.stage) ∙ items_of p row in
    record {
      searched = at.searched;
      some_row = none_zero f.row at.some_row;
      roomy = subst (Contains (ladder_in p)) (sym at.row_is) at.in_ladder;
      rising = subst (λ (n : ℕ). Rising n 0 f.places) count here.rising;
      admissible = here;
    }

light_by : (l : PaymentLoad) (coins : List Candidate) (change : Option ℕ) → payment_weight l coins change ≤ 400_000 → weight_of coins ≤ 400_000
light_by l coins None h = omega (arith, h)
light_by l coins (Some n) h = omega (arith, h)

-- the coins of a result, with the presets, are within their bounds
pub found_fit : (p : PlainPlan) (f : PlainFound) → IsPlan p → IsResultOf (steps_of p) f → AreWithin (coins_at p (row_of p f.row) f.places)
found_fit p f h result =
    let at = named p f result in
    let row = row_of p f.row in
    let pays = pays_at p row f.stage f.places h at.searched at.rising at.admissible in
    coins_fit p row f.places h at.rising (light_by (load_in p row) (coins_at p row f.places) (change_at p row f.stage f.places) pays.weight)

pub found_pays : (p : PlainPlan) (mark : Mark) (f : PlainFound) → IsPlan p → IsResultOf (steps_of p) f → IsPayment p (funded_at p mark f)
found_pays p mark f h result =
    let at = named p f result in
    let row = row_of p f.row in
    let s = spent p row f.places h at.rising in
    let all = all_of p row f.places in
    let coins = coins_at p row f.places in
    let change = change_at p row f.stage f.places in
    let none : false ≡ (f.row == 0) = sym at.some_row in
    let there = in_order_all all s.apart in
    let hand : Candidate → Type 0 = IsAtHandBy p false f.row in
    let given : All hand (presets_in p) = all_from hand (presets_in p) (λ c held. inl held) in
    let others : All hand (chosen_at p row f.places) =
    All-weaker (λ (c : Candidate). (g : List Candidate) × Contains (pool_in p row).groups g × Contains g c) hand (λ c in_group. inr in_group) (chosen_at p row f.places) (members_grouped (pool_in p row).groups 0 f.places at.rising) in
    record {
      candidates = in_order_keeps (Contains (coins_in p)) all s.held;
      presets = all_from (Contains coins) (presets_in p) (λ c held. All-contains (Contains coins) all c there (Contains-append_left (presets_in p) (chosen_at p row f.places) c held));
      at_hand = subst (λ (b : Bool). All (IsAtHandBy p b f.row) coins) none (in_order_keeps hand all (All-append hand (presets_in p) (chosen_at p row f.places) given others));
      coins = found_fit p f h result;
      pays = subst (λ (b : Bool). Pays p.request p.change (load_by p b f.row) coins change (payment_from p.request p.change coins change)) none (pays_at p row f.stage f.places h at.searched at.rising at.admissible);
      weight_is = ap (λ (b : Bool). payment_weight (load_by p b f.row) coins change) none;
      waste_is = ap (λ (b : Bool). waste_of p.request (load_by p b f.row) coins change) none;
    }
