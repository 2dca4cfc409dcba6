-- Waste, weight and coins of a payment, by those of its selection.
use Rattle.std.specs.Prelude.{◌≤ℤ◌, ℕ, ℤ, pos, ◌≡◌, ◌≤◌, ◌+◌, ◌-◌, ◌+ℤ◌, ◌-ℤ◌, false, Bool, List, [], ◌∷◌, ◌++◌, fold, length, map, slice_index_or, sum_by, Option, Some, None}
use Rattle.std.specs.Int.Signed.{pos-nat_abs, yes_non_neg}
use Rattle.std.proofs.Common.{refl, sym, ap, subst, ◌∙◌, arith}
use Rattle.std.proofs.lemmas.Int.{ints}
use Rattle.std.proofs.lemmas.List.{get_or-map, length-append}
use Rattle.std.proofs.lemmas.List.Sums.{sum_by-append, sum_by-cons}
use Rattle.closing_log.specs.declared.log.Stage.{Stage}
use Rattle.closing_log.specs.declared.log.Stage.TheVariants as stage
use Rattle.closing_log.specs.declared.mark.Mark.{Mark}
use Rattle.fee_rates.specs.Fee.{fee_of, input_fee_of, vsize_of}
use Rattle.fee_rates.specs.Terms.{base_of, change_fee_of, change_spend_of, target_of, terms_of}
use Rattle.coin_candidates.specs.declared.candidate.Candidate.{Candidate}
use Rattle.output_groups.specs.Measures.{charge_of, coin_cost, cost_of as group_cost}
use Rattle.output_groups.specs.Pool.{item_of}
use Rattle.output_groups.specs.declared.rows.Row.{Row}
use Rattle.pick_problem.specs.Admissible.{IsAdmissible}
use Rattle.pick_problem.specs.Problem.{PlainProblem, Rising, cost_of as cost_at, value_of as value_at, weight_of as weight_at}
use Rattle.pick_problem.specs.declared.item.Item.{Item}
use Rattle.request_text.specs.PlainRequest.{paid_to}
use Rattle.search_run.specs.Found.{IsResultOf, PlainFound, coins_at as count_at, found_at}
use Rattle.search_run.specs.Step.{PlainStep}
use Rattle.fund_steps.specs.Amounts.{charges_of, fees_of, value_of}
use Rattle.fund_steps.specs.Basis.{basis_of}
use Rattle.fund_steps.specs.Listed.{burden_in, presets_in}
use Rattle.fund_steps.specs.Plan.{IsPlan, PlainPlan}
use Rattle.fund_steps.specs.Searches.{row_in, step_by}
use Rattle.fund_steps.specs.Terms.{load_of, rates_of}
use Rattle.fund_plan.specs.Chosen.{change_at, chosen_at, coins_at, funded_at, left_of, load_by, load_for, members, row_of}
use Rattle.fund_plan.specs.Figures.{cost_of, waste_of}
use Rattle.fund_plan.specs.Pays.{payment_weight, raised_of}
use Rattle.fund_plan.specs.Steps.{is_given, load_in, pool_in, problem_at, steps_of, terms_in}
use Rattle.fund_plan.proofs.BringLaws.{gains_are, items_in, short_of, some_target, target_in, values_are, weights_are}
use Rattle.fund_plan.proofs.FoundLaws.{chosen_fit, named, problem_items, reachable, together, useful_in}
use Rattle.fund_plan.proofs.RowLaws.{found_in}
use Rattle.fund_plan.proofs.SpendLaws.{ones}

-- ---- the cost of places is that of their coins

-- fees and prices now less fees in the long run
abbrev spread_of : (rate long_term : ℕ) → List Candidate → ℤ
spread_of rate long_term coins = pos (charges_of rate coins) -ℤ pos (fees_of long_term coins)

more_spread : (z : ℤ) (a price b m n s t : ℕ) → s ≡ (a + price) + m → t ≡ b + n → (z +ℤ ((pos a -ℤ pos b) +ℤ pos price)) +ℤ (pos m -ℤ pos n) ≡ z +ℤ (pos s -ℤ pos t)
more_spread z a price b m n s t p q = omega (arith, ints)

cost_from : (rate long_term : ℕ) (g : List Candidate) (z : ℤ) → fold (λ (s : ℤ) (c : Candidate). s +ℤ coin_cost rate long_term c) z g ≡ z +ℤ spread_of rate long_term g
cost_from rate long_term [] z = omega (arith, ints)
cost_from rate long_term (c ∷ g) z =
    cost_from rate long_term g (z +ℤ coin_cost rate long_term c)
    ∙ more_spread z (input_fee_of rate c.weight) c.price (input_fee_of long_term c.weight) (charges_of rate g) (fees_of long_term g) (charges_of rate (c ∷ g)) (fees_of long_term (c ∷ g))
    (sum_by-cons (charge_of rate) c g) (sum_by-cons (λ (x : Candidate). input_fee_of long_term x.weight) c g)

cost_is : (rate long_term : ℕ) (g : List Candidate) → group_cost rate long_term g ≡ spread_of rate long_term g
cost_is rate long_term g = let e = cost_from rate long_term g (pos 0) in omega (arith, ints, e)

both_spread : (x y : ℤ) (a b m n s t : ℕ) → x ≡ pos a -ℤ pos b → y ≡ pos m -ℤ pos n → s ≡ a + m → t ≡ b + n → x +ℤ y ≡ pos s -ℤ pos t
both_spread x y a b m n s t p q u v = omega (arith, ints)

costs_are : (rate long_term t : ℕ) (groups : List (List Candidate)) (x : PlainProblem) (places : List ℕ) → x.items ≡ map (item_of rate long_term) groups → Rising (length groups) t places → cost_at x places ≡ spread_of rate long_term (members groups places)
costs_are rate long_term t groups x [] is rising = refl
costs_are rate long_term t groups x (j ∷ places) is rising =
    let d : Item = record { value = 0; weight = 0; cost = pos 0 } in
    let g = slice_index_or groups j [] in
    let rest = members groups places in
    let here = ap (λ (i : Item). i.cost) (ap (λ (xs : List Item). slice_index_or xs j d) is ∙ get_or-map (item_of rate long_term) groups j [] d rising.1) ∙ cost_is rate long_term g in
    both_spread _ (cost_at x places) (charges_of rate g) (fees_of long_term g) (charges_of rate rest) (fees_of long_term rest) (charges_of rate (g ++ rest)) (fees_of long_term (g ++ rest)) here
    (costs_are rate long_term (j + 1) groups x places is rising.2) (sum_by-append (charge_of rate) g rest) (sum_by-append (λ (c : Candidate). input_fee_of long_term c.weight) g rest)

-- ---- how many coins

counts_are : (t : ℕ) (groups : List (List Candidate)) (places : List ℕ) → Rising (length groups) t places → sum_by (λ (j : ℕ). slice_index_or (map (λ (g : List Candidate). length g) groups) j 0) places ≡ length (members groups places)
counts_are t groups [] rising = refl
counts_are t groups (j ∷ places) rising =
    let here = get_or-map (λ (g : List Candidate). length g) groups j [] 0 rising.1 in
    omega (
      arith,
      here,
      counts_are (j + 1) groups places rising.2,
      sum_by-cons (λ (i : ℕ). slice_index_or (map (λ (g : List Candidate). length g) groups) i 0) j places,
      length-append (slice_index_or groups j []) (members groups places),
    )

-- ---- at plain numbers

-- without change: the cost and the excess of the whole, by those of the selection and the cost of the presets
plain_sum : (paid base burden raised value fees later lo bring worth costs long vc fc lc : ℕ) (cost : ℤ) → pos lo ≡ short_of paid base burden raised value fees → lo ≤ bring → bring + costs ≡ worth → vc ≡ value + worth → fc ≡ fees + costs → lc ≡ later + long → cost ≡ pos costs -ℤ pos long
    → (pos fc -ℤ pos lc) +ℤ (pos vc -ℤ pos (paid + base + fc + burden + raised)) ≡ (cost +ℤ pos (bring - lo)) +ℤ (pos fees -ℤ pos later)
plain_sum paid base burden raised value fees later lo bring worth costs long vc fc lc cost target enough is v f l c = omega (arith, ints)

-- with change
changed_sum : (fees later costs long fc lc ends : ℕ) (cost : ℤ) → fc ≡ fees + costs → lc ≡ later + long → cost ≡ pos costs -ℤ pos long → (pos fc -ℤ pos lc) +ℤ pos ends ≡ (cost +ℤ pos ends) +ℤ (pos fees -ℤ pos later)
changed_sum fees later costs long fc lc ends cost f l c = omega (arith, ints)

-- ---- at a stage

abbrev step_at : PlainPlan → Row → Stage → Bool → PlainStep
step_at p row s last = step_by (terms_in p row) (row_in (basis_of p) row) (record { stage = s; last = last })

module _ (p : PlainPlan) (row : Row) (places : List ℕ) (h : IsPlan p) (searched : is_given p ≡ false) (rising : Rising (length (pool_in p row).groups) 0 places) where
  abbrev base_fee : ℕ
  base_fee = fee_of p.request.rate (vsize_of (base_of (load_in p row)))

  cost_here : (x : PlainProblem) → x.items ≡ (pool_in p row).items → cost_at x places ≡ spread_of p.request.rate p.request.long_term (chosen_at p row places)
  cost_here x is = costs_are p.request.rate p.request.long_term 0 (pool_in p row).groups x places (is ∙ items_in p row) rising

  charges_all : (rate : ℕ) → charges_of rate (coins_at p row places) ≡ charges_of rate (presets_in p) + charges_of rate (chosen_at p row places)
  charges_all rate = together (charge_of rate) p row places h rising

  fees_all : (rate : ℕ) → fees_of rate (coins_at p row places) ≡ fees_of rate (presets_in p) + fees_of rate (chosen_at p row places)
  fees_all rate = together (λ (c : Candidate). input_fee_of rate c.weight) p row places h rising

  plain_waste : (last : Bool) → IsAdmissible (problem_at p row stage.Changeless) places
      → waste_of p.request (load_in p row) (coins_at p row places) None ≡ (found_at (step_at p row stage.Changeless last) places).waste +ℤ cost_of p.request (presets_in p)
  unfolding load_of terms_of
  plain_waste last adm =
      let r = p.request in
      let l = load_in p row in
      let given = presets_in p in
      let chosen = chosen_at p row places in
      let x = problem_at p row stage.Changeless in
      let some = some_target p row searched in
      let lo : pos x.lo ≡ target_of (rates_of r) l = pos-nat_abs (target_of (rates_of r) l) (yes_non_neg (omega (arith, ints, some))) in
      let value = values_are r.rate r.long_term 0 (pool_in p row).groups x places (items_in p row) rising in
      let enough : x.lo ≤ value_at x places = adm.reaches in
      let worth = gains_are r.rate chosen (useful_in p row places h rising) in
      let low : target_of (rates_of r) l ≤ℤ pos (value_at x places) = omega (arith, ints, lo, enough) in
      let is = target_in p row (reachable (target_of (rates_of r) l) (value_at x places) (value_of chosen) (charges_of r.rate chosen) low (omega (arith, value, worth)) (chosen_fit p row places h rising).value) in
      plain_sum (paid_to r.recipients) base_fee (burden_in p) (raised_of r.rate l) (value_of given) (charges_of r.rate given) (fees_of r.long_term given) x.lo (value_at x places) (value_of chosen) (charges_of r.rate chosen) (fees_of r.long_term chosen)
      (value_of (coins_at p row places)) (charges_of r.rate (coins_at p row places)) (fees_of r.long_term (coins_at p row places)) (cost_at x places)
      (lo ∙ is) enough (omega (arith, value, worth))
      (together (λ (c : Candidate). c.value) p row places h rising) (charges_all r.rate) (fees_all r.long_term) (cost_here x refl)

  changed_waste : (n : ℕ) (x : PlainProblem) → x.items ≡ (pool_in p row).items
      → waste_of p.request (load_in p row) (coins_at p row places) (Some n) ≡ (cost_at x places +ℤ pos (change_fee_of (rates_of p.request) (load_in p row) + change_spend_of (rates_of p.request) (load_in p row))) +ℤ cost_of p.request (presets_in p)
  changed_waste n x is =
      let r = p.request in
      let given = presets_in p in
      let chosen = chosen_at p row places in
      changed_sum (charges_of r.rate given) (fees_of r.long_term given) (charges_of r.rate chosen) (fees_of r.long_term chosen) (charges_of r.rate (coins_at p row places)) (fees_of r.long_term (coins_at p row places))
      (change_fee_of (rates_of r) (load_in p row) + change_spend_of (rates_of r) (load_in p row)) (cost_at x places) (charges_all r.rate) (fees_all r.long_term) (cost_here x is)

  waste_at : (s : Stage) (last : Bool) → IsAdmissible (problem_at p row s) places
      → waste_of p.request (load_in p row) (coins_at p row places) (change_at p row s places) ≡ (found_at (step_at p row s last) places).waste +ℤ cost_of p.request (presets_in p)
  unfolding terms_of
  waste_at stage.Changeless last adm = plain_waste last adm
  waste_at stage.LeanSmall last adm = changed_waste (left_of p.request (load_in p row) (chosen_at p row places)) (problem_at p row stage.LeanSmall) refl
  waste_at stage.Presets last adm = changed_waste (left_of p.request (load_in p row) (chosen_at p row places)) (problem_at p row stage.Presets) refl
  waste_at stage.LeanBig last adm = changed_waste (left_of p.request (load_in p row) (chosen_at p row places)) (problem_at p row stage.LeanBig) refl
  waste_at stage.Draw last adm = changed_waste (left_of p.request (load_in p row) (chosen_at p row places)) (problem_at p row stage.Draw) refl
  waste_at stage.Wide last adm = changed_waste (left_of p.request (load_in p row) (chosen_at p row places)) (problem_at p row stage.Wide) refl

  weight_here : (x : PlainProblem) (change : Option ℕ) → x.items ≡ (pool_in p row).items → payment_weight (load_in p row) (coins_at p row places) change ≡ payment_weight (load_in p row) (presets_in p) change + weight_at x places
  weight_here x None is =
      let all = together (λ (c : Candidate). c.weight) p row places h rising in
      let mine = weights_are p.request.rate p.request.long_term 0 (pool_in p row).groups x places (is ∙ items_in p row) rising in
      omega (arith, all, mine)
  weight_here x (Some n) is =
      let all = together (λ (c : Candidate). c.weight) p row places h rising in
      let mine = weights_are p.request.rate p.request.long_term 0 (pool_in p row).groups x places (is ∙ items_in p row) rising in
      omega (arith, all, mine)

  count_here : (s : Stage) (last : Bool) → length (coins_at p row places) ≡ length (presets_in p) + count_at (step_at p row s last) places
  count_here s last =
      let all = together (λ (c : Candidate). 1) p row places h rising in
      omega (arith, all, ones (coins_at p row places), ones (presets_in p), ones (chosen_at p row places), counts_are 0 (pool_in p row).groups places rising)

-- ---- of a result

pub waste_measured : (p : PlainPlan) (mark : Mark) (f : PlainFound) → IsPlan p → IsResultOf (steps_of p) f → (funded_at p mark f).waste ≡ f.waste +ℤ cost_of p.request (presets_in p)
waste_measured p mark f h result =
    let at = found_in p f result in
    let n = named p f result in
    let row = row_of p f.row in
    let is : f ≡ found_at (step_at p row f.stage at.turn.last) f.places =
    at.is ∙ ap (λ (q : Row). found_at (step_at p q at.turn.stage at.turn.last) f.places) (sym at.row_is) ∙ ap (λ (s : Stage). found_at (step_at p row s at.turn.last) f.places) (sym at.stage_is) in
    waste_at p row f.places h n.searched n.rising f.stage at.turn.last n.admissible ∙ ap (λ (g : PlainFound). g.waste +ℤ cost_of p.request (presets_in p)) (sym is)

pub weight_measured : (p : PlainPlan) (mark : Mark) (f : PlainFound) → IsPlan p → IsResultOf (steps_of p) f
    → (funded_at p mark f).weight ≡ payment_weight (load_for p f.row) (presets_in p) (funded_at p mark f).change + weight_at (problem_at p (row_of p f.row) f.stage) f.places
weight_measured p mark f h result =
    let n = named p f result in
    let row = row_of p f.row in
    let change = change_at p row f.stage f.places in
    let x = problem_at p row f.stage in
    subst (λ (b : Bool). payment_weight (load_in p row) (coins_at p row f.places) change ≡ payment_weight (load_by p b f.row) (presets_in p) change + weight_at x f.places) (sym n.some_row)
    (weight_here p row f.places h n.searched n.rising x change (problem_items p row f.stage))

pub count_measured : (p : PlainPlan) (mark : Mark) (f : PlainFound) → IsPlan p → IsResultOf (steps_of p) f → length (funded_at p mark f).coins ≡ length (presets_in p) + f.coins
count_measured p mark f h result =
    let at = found_in p f result in
    let n = named p f result in
    let row = row_of p f.row in
    let is : f ≡ found_at (step_at p row f.stage at.turn.last) f.places =
    at.is ∙ ap (λ (q : Row). found_at (step_at p q at.turn.stage at.turn.last) f.places) (sym at.row_is) ∙ ap (λ (s : Stage). found_at (step_at p row s at.turn.last) f.places) (sym at.stage_is) in
    count_here p row f.places h n.searched n.rising f.stage at.turn.last ∙ ap (λ (g : PlainFound). length (presets_in p) + g.coins) (sym is)
