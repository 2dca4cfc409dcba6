-- The steps of a plan keep the rules of steps.
use Rattle.std.specs.Prelude.{ℕ, ℤ, pos, negsuc, neg_ℤ, ◌≡◌, ◌≤◌, ◌<◌, ◌+◌, ◌-◌, ◌*◌, ◌^◌, ◌++◌, ◌+ℤ◌, ◌-ℤ◌, ◌≤ℤ◌, List, [], ◌∷◌, All, Bool, true, false, cond, fold, int_lt, length, map, nat_lt, not, sum_by, unsigned_abs}
use Rattle.std.specs.List.{flat_map}
use Rattle.std.proofs.Common.{refl, sym, subst, arith, length-append}
use Rattle.std.proofs.lemmas.Int.{ints}
use Rattle.std.proofs.lemmas.List.Elements.{All-cons, All-head, All-map, All-nil, All-tail, All-weaker}
use Rattle.std.proofs.lemmas.List.Sums.{get_or-le-sum_by, sum_by-le}
use Rattle.closing_log.specs.declared.log.Stage.{Stage}
use Rattle.closing_log.specs.declared.log.Stage.TheVariants as stage
use Rattle.fee_rates.proofs.CompactLaws.{compact_len_is}
use Rattle.fee_rates.proofs.FeeLaws.{fee_at_dust_rate, fee_below, fee_least, vsize_least}
use Rattle.fee_rates.specs.Fee.{fee_of, input_fee_of, vsize_of}
use Rattle.fee_rates.specs.Output.{dust_of, is_program_of, is_unspendable_of, output_size_of}
use Rattle.fee_rates.specs.Terms.{IsLoad, base_of, target_of, terms_of}
use Rattle.fee_rates.specs.declared.terms.PaymentLoad.{PaymentLoad}
use Rattle.fee_rates.specs.declared.terms.Rates.{Rates}
use Rattle.fee_rates.specs.declared.terms.Terms.{Terms}
use Rattle.coin_candidates.specs.Candidates.{AreCandidates, IsCandidate}
use Rattle.fund_base.specs.CompactSize.{compact}
use Rattle.coin_candidates.specs.declared.candidate.Candidate.{Candidate}
use Rattle.fund_desk.proofs.LookLaws.{candidates_filter}
use Rattle.fund_plan.specs.Steps.{steps_of}
use Rattle.fund_steps.proofs.BumpLaws.{burden_within, presets_fit}
use Rattle.fund_steps.proofs.MakingLaws.{searched, step_fits}
use Rattle.fund_steps.proofs.SumLaws.{weights_within}
use Rattle.fund_steps.proofs.TermLaws.{row_searchable, some_where}
use Rattle.fund_steps.specs.Amounts.{AreWithin, charges_of}
use Rattle.fund_steps.specs.Basis.{basis_of, load_alone}
use Rattle.fund_steps.specs.Listed.{burden_in, presets_in}
use Rattle.fund_steps.specs.Making.{AreReady, AreSearchable, AreSearched, groups_for}
use Rattle.fund_steps.specs.Plan.{IsPlan, IsRoomy, PlainPlan, ladder_in}
use Rattle.fund_steps.specs.Searches.{is_high, is_met, load_with, problem_by, row_in, sizes_of, step_by, step_with, steps_at, steps_of as steps_by, terms_in, turns_for, turns_in}
use Rattle.fund_steps.specs.Selection.{is_listed, unlisted}
use Rattle.fund_steps.specs.Terms.{load_of, rates_of}
use Rattle.fund_steps.specs.Turns.{HasSteps, before_last, last, turns_of}
use Rattle.fund_steps.specs.declared.turns.Turn.{Turn}
use Rattle.output_groups.proofs.ItemLaws.{items_fit}
use Rattle.output_groups.proofs.PlacedLaws.{counted}
use Rattle.output_groups.proofs.PoolLaws.{pool_groups}
use Rattle.output_groups.proofs.SortLaws.{is_pool}
use Rattle.output_groups.specs.Measures.{IsGroup, charge_of, coin_cost, gain, is_useful}
use Rattle.output_groups.specs.Pool.{item_of}
use Rattle.output_groups.specs.PoolOf.{pool_of}
use Rattle.output_groups.specs.declared.rows.Row.{Row}
use Rattle.pick_problem.specs.Pool.{AreItems, IsItem}
use Rattle.pick_problem.specs.Problem.{IsProblem}
use Rattle.pick_problem.specs.declared.item.Item.{Item}
use Rattle.request_text.specs.PlainRequest.{IsRequest, PlainRequest}
use Rattle.request_text.specs.declared.request.Method.{Method}
use Rattle.request_text.specs.declared.request.Method.TheVariants.{Auto, Changeless, Weight, Draw, Manual}
use Rattle.search_run.specs.Step.{AreSteps, PlainStep}
use Rattle.wallet_text.specs.WalletRules.{IsWatch}
use Rattle.wallet_text.specs.declared.wallet.Watch.{Watch}

-- ---- what a group counts for

fee_most : (rate w : ℕ) → rate ≤ 100_000_000 → w ≤ 400_000 → input_fee_of rate w ≤ 10_000_000_000
fee_most rate w low small =
    let size : vsize_of w ≤ 100_000 = (vsize_least w).least 100_000 (omega (arith, small)) in
    omega (arith, fee_below rate (vsize_of w) 100_000_000 100_000 low size, (fee_least 100_000_000 100_000).least 10_000_000_000 (omega arith))

gained : (value fee price : ℕ) → int_lt (pos 0) ((pos value -ℤ pos fee) -ℤ pos price) ≡ true → 1 ≤ value - (fee + price)
gained value fee price h = grind (arith, ints, h)

coin_near : (rate long_term : ℕ) (c : Candidate) → rate ≤ 100_000_000 → long_term ≤ 100_000_000 → IsCandidate c → (neg_ℤ (pos 10_000_000_000) ≤ℤ coin_cost rate long_term c) × (coin_cost rate long_term c ≤ℤ pos 2_100_010_000_000_000)
coin_near rate long_term c low later is =
    let now = fee_most rate c.weight low is.most_weight in
    let then = fee_most long_term c.weight later is.most_weight in
    let price = is.price in
    (omega (arith, ints, now, then), omega (arith, ints, now, then, price))

costs_near : (rate long_term : ℕ) (g : List Candidate) (a : ℤ) (l m : ℕ) → rate ≤ 100_000_000 → long_term ≤ 100_000_000 → All IsCandidate g → neg_ℤ (pos l) ≤ℤ a → a ≤ℤ pos m
    → (neg_ℤ (pos (l + length g * 10_000_000_000)) ≤ℤ fold (λ s c. s +ℤ coin_cost rate long_term c) a g) × (fold (λ s c. s +ℤ coin_cost rate long_term c) a g ≤ℤ pos (m + length g * 2_100_010_000_000_000))
costs_near rate long_term [] a l m low later each least most = (omega (arith, ints, least), omega (arith, ints, most))
costs_near rate long_term (c ∷ g) a l m low later each least most =
    let one = coin_near rate long_term c low later (All-head IsCandidate c g each) in
    let rest =
    costs_near rate long_term g (a +ℤ coin_cost rate long_term c) (l + 10_000_000_000) (m + 2_100_010_000_000_000) low later (All-tail IsCandidate c g each) (omega (arith, ints, least, one.0)) (omega (arith, ints, most, one.1)) in
    (omega (arith, ints, rest.0), omega (arith, ints, rest.1))

item_is : (rate long_term : ℕ) (g : List Candidate) → rate ≤ 100_000_000 → long_term ≤ 100_000_000 → IsGroup rate g → IsItem (item_of rate long_term g)
item_is rate long_term [] low later h = let some = h.some in absurd (omega (arith, some))
item_is rate long_term (c ∷ g) low later h =
    let few = h.few in
    let first = All-head IsCandidate c g h.each in
    let useful = All-head (λ (x : Candidate). is_useful rate x ≡ true) c g h.useful in
    let one : 1 ≤ gain rate c = gained c.value (input_fee_of rate c.weight) c.price useful in
    let value = get_or-le-sum_by (gain rate) (c ∷ g) 0 c (omega arith) in
    let values = sum_by-le (gain rate) 2_100_000_000_000_000 (c ∷ g) (All-weaker IsCandidate (λ (x : Candidate). gain rate x ≤ 2_100_000_000_000_000) (λ x k. let v = k.value in omega (arith, v)) (c ∷ g) h.each) in
    let weight = get_or-le-sum_by (λ (x : Candidate). x.weight) (c ∷ g) 0 c (omega arith) in
    let least = first.least_weight in
    let weights = sum_by-le (λ (x : Candidate). x.weight) 400_000 (c ∷ g) (All-weaker IsCandidate (λ (x : Candidate). x.weight ≤ 400_000) (λ x k. k.most_weight) (c ∷ g) h.each) in
    let costs = costs_near rate long_term (c ∷ g) (pos 0) 0 0 low later h.each (omega (arith, ints)) (omega (arith, ints)) in
    record {
      value = (omega (arith, one, value), omega (arith, values, few));
      weight = (omega (arith, weight, least), omega (arith, weights, few));
      cost = (omega (arith, ints, costs.0, few), omega (arith, ints, costs.1, few));
    }

-- ---- what a search sees of a row's pool

module _ (p : PlainPlan) (h : IsPlan p) (row : Row) (roomy : IsRoomy p row) where
  abbrev rest : List Candidate
  rest = unlisted p.request.coins p.candidates

  abbrev groups : List (List Candidate)
  groups = (pool_of p.request.group row p.request.rate p.request.long_term rest).groups

  rest_fit : AreCandidates rest
  rest_fit = candidates_filter (λ (c : Candidate). not (is_listed p.request.coins c.coin)) p.candidates h.candidates

  each_group : All (IsGroup p.request.rate) groups
  each_group = pool_groups p.request.group row p.request.rate p.request.long_term rest (pool_of p.request.group row p.request.rate p.request.long_term rest) rest_fit.each (is_pool p.request.group row p.request.rate p.request.long_term rest)

  items_are : AreItems (pool_of p.request.group row p.request.rate p.request.long_term rest).items
  items_are =
      let rate = p.request.rate in
      let long_term = p.request.long_term in
      let is = is_pool p.request.group row rate long_term rest in
      let few = roomy (length groups) (counted p.request.group row rate long_term rest) in
      let each = All-map IsItem (item_of rate long_term) groups (All-weaker (IsGroup rate) (λ g. IsItem (item_of rate long_term g)) (λ g k. item_is rate long_term g h.request.rate h.request.long_term k) groups each_group) in
      subst AreItems (sym is.items_are) (items_fit rate long_term groups few each is.order)

  seen : AreSearched (pool_of p.request.group row p.request.rate p.request.long_term rest).items (sizes_of groups)
  seen = searched (groups_for p.request rest) row _ _ refl refl items_are (All-map (λ n. n ≤ 100) (λ (g : List Candidate). length g) groups (All-weaker (IsGroup p.request.rate) (λ g. length g ≤ 100) (λ g k. k.few) groups each_group))

-- ---- terms

at_most_nine : (a b c : Bool) → cond a 1 (cond b 3 (cond c 5 9)) ≤ 9
at_most_nine true b c = omega arith
at_most_nine false true c = omega arith
at_most_nine false false true = omega arith
at_most_nine false false false = omega arith

output_most : (script : List ℕ) → length script ≤ 10_000 → output_size_of script ≤ 10_017
output_most script most =
    let n = length script in
    let few : length (compact n) ≤ 9 = rw (compact_len_is n) (at_most_nine (nat_lt n 253) (nat_lt n 65536) (nat_lt n 4294967296)) in
    omega (arith, few, most, length-append (compact n) script)

dust_most : (script : List ℕ) → length script ≤ 10_000 → dust_of script ≤ 31_000
unfolding dust_of
dust_most script most = by (is_unspendable_of script) (is_program_of script)
  where
    size : output_size_of script ≤ 10_017
    size = output_most script most

    by : (a b : Bool) → cond a 0 (cond b (fee_of 3000 (output_size_of script + 67)) (fee_of 3000 (output_size_of script + 148))) ≤ 31_000
    by true b = omega arith
    by false true = omega (arith, size, fee_at_dust_rate (output_size_of script + 67))
    by false false = omega (arith, size, fee_at_dust_rate (output_size_of script + 148))

-- a load from which steps can be made
record IsFit (l : PaymentLoad) : Type 0 where
  load : IsLoad l
  dust : l.change_dust ≤ 31_000
  coins : l.coins ≤ 100_000

load_fits : (r : PlainRequest) (w : Watch) (coins : List Candidate) (burden : ℕ) → IsRequest r → IsWatch w → AreWithin coins → burden ≤ 1_000_000_000_000_000_000 → IsFit (load_of r w coins burden)
unfolding load_of
load_fits r w coins burden rules watch within low =
    let count = within.count in
    let value = within.value in
    let charges = sum_by-le (charge_of r.rate) 2_100_010_000_000_000 coins
    (All-weaker IsCandidate (λ (c : Candidate). charge_of r.rate c ≤ 2_100_010_000_000_000) (λ c k. omega (arith, fee_most r.rate c.weight rules.rate k.most_weight, k.price)) coins within.each) in
    let paid : charges_of r.rate coins ≤ 210_001_000_000_000_000_000 = omega (arith, charges, count) in
    let size = output_most w.script watch.most in
    record {
      load = record {
        paid = rules.money;
        outputs = omega arith;
        count = omega arith;
        preset_low = omega (arith, ints, paid);
        preset_high = omega (arith, ints, value);
        preset_weight = weights_within coins within;
        burden = low;
        change_size = omega (arith, size);
        change_weight = watch.most_weight;
      };
      dust = dust_most w.script watch.most;
      coins = count;
    }

turn_more : (u : Turn) (us : List Turn) → HasSteps u.stage → All (λ (x : Turn). HasSteps x.stage) us → All (λ (x : Turn). HasSteps x.stage) (u ∷ us)
turn_more u us has rest = All-cons (λ (x : Turn). HasSteps x.stage) u us has rest

no_turn : All (λ (x : Turn). HasSteps x.stage) []
no_turn = All-nil (λ (x : Turn). HasSteps x.stage)

small_last : All (λ (x : Turn). HasSteps x.stage) (last stage.LeanSmall ∷ [])
small_last = turn_more (last stage.LeanSmall) [] tt no_turn

drawn : All (λ (x : Turn). HasSteps x.stage) (last stage.Draw ∷ last stage.LeanSmall ∷ [])
drawn = turn_more (last stage.Draw) (last stage.LeanSmall ∷ []) tt small_last

turns_have : (m : Method) (high : Bool) → All (λ (x : Turn). HasSteps x.stage) (turns_of m high)
turns_have Auto true = turn_more (before_last stage.Changeless) (before_last stage.LeanBig ∷ last stage.Draw ∷ last stage.LeanSmall ∷ []) tt (turn_more (before_last stage.LeanBig) (last stage.Draw ∷ last stage.LeanSmall ∷ []) tt drawn)
turns_have Auto false = turn_more (before_last stage.Changeless) (last stage.Draw ∷ last stage.LeanSmall ∷ []) tt drawn
turns_have Changeless high = turn_more (last stage.Changeless) [] tt no_turn
turns_have Weight high = turn_more (last stage.LeanBig) (last stage.LeanSmall ∷ []) tt small_last
turns_have Draw high = drawn
turns_have Manual high = no_turn

-- the stages of each row, and that coins have to bring something where there is one
record AreAsked (r : PlainRequest) (l : PaymentLoad) (us : List Turn) : Type 0 where
  stages : All (λ (u : Turn). HasSteps u.stage) us
  some : 0 < length us → pos 1 ≤ℤ target_of (rates_of r) l

asked : (r : PlainRequest) (l : PaymentLoad) → AreAsked r l (turns_for r l)
asked r l = by (is_met (rates_of r) l) refl
  where
    by : (b : Bool) → is_met (rates_of r) l ≡ b → AreAsked r l (cond b [] (turns_of r.method (is_high r)))
    by true is = record { stages = no_turn; some = λ lt. absurd (omega (arith, lt)) }
    by false is = record { stages = turns_have r.method (is_high r); some = λ lt. some_where (rates_of r) l is }

ready : (p : PlainPlan) → IsPlan p → AreReady (rates_of p.request) (load_alone (basis_of p)) (turns_in (basis_of p))
ready p h =
    let fit = load_fits p.request p.change (presets_in p) (burden_in p) h.request h.change (presets_fit p h) (burden_within p.candidates p.bump h.bump.fits) in
    let a = asked p.request (load_alone (basis_of p)) in
    record {
      rates = record { rate = h.request.rate; discard = h.request.discard; change_target = h.request.change_target };
      load = fit.load;
      dust = fit.dust;
      coins = fit.coins;
      stages = a.stages;
      some = a.some;
    }

-- ---- problems

less : (a b c : ℕ) → a - b - c ≤ a
less a b c = omega arith

record HasLimits (t : Terms) : Type 0 where
  plain : t.plain_limit ≤ 400_000
  change : t.change_limit ≤ 400_000

limits : (r : Rates) (l : PaymentLoad) → HasLimits (terms_of r l)
unfolding terms_of
limits r l = record { plain = less 400_000 (base_of l) l.preset_weight; change = let p = less 400_000 (base_of l) l.preset_weight in omega (arith, p) }

record IsAmount (z : ℤ) : Type 0 where
  some : 1 ≤ unsigned_abs z
  fits : unsigned_abs z < 2 ^ 64
  is : pos (unsigned_abs z) ≡ z

amount : (z : ℤ) → pos 1 ≤ℤ z → z ≤ℤ pos 18_446_744_073_709_551_615 → IsAmount z
amount (pos n) low high = record { some = omega (arith, ints, low); fits = omega (arith, ints, high); is = refl }
amount (negsuc n) low high = absurd (omega (arith, ints, low))

problem_is : (t : Terms) (items : List Item) (s : Stage) → AreSearchable t → HasLimits t → AreItems items → IsProblem (problem_by t items s)
problem_is t items s h limit fit = by s
  where
    target : IsAmount t.target
    target = amount t.target h.some (omega (arith, ints, h.order, h.small, h.big, h.fit))

    hi : IsAmount t.hi
    hi = amount t.hi (omega (arith, ints, h.some, h.order)) (omega (arith, ints, h.small, h.big, h.fit))

    small : IsAmount t.small
    small = amount t.small (omega (arith, ints, h.some, h.order, h.small)) (omega (arith, ints, h.big, h.fit))

    big : IsAmount t.big
    big = amount t.big (omega (arith, ints, h.some, h.order, h.small, h.big)) h.fit

    lean : IsProblem (problem_by t items stage.LeanBig)
    lean = record { items = fit; some = big.some; bounds = refl; lo_fits = big.fits; hi_fits = big.fits; weight_fits = let c = limit.change in omega (arith, c) }

    order : unsigned_abs t.target ≤ unsigned_abs t.hi
    order = let a = target.is in let b = hi.is in let o = h.order in omega (arith, ints, a, b, o)

    by : (s : Stage) → IsProblem (problem_by t items s)
    by stage.Presets = lean
    by stage.Changeless = record { items = fit; some = target.some; bounds = order; lo_fits = target.fits; hi_fits = hi.fits; weight_fits = let c = limit.plain in omega (arith, c) }
    by stage.LeanBig = lean
    by stage.Draw = lean
    by stage.LeanSmall = record { items = fit; some = small.some; bounds = refl; lo_fits = small.fits; hi_fits = small.fits; weight_fits = let c = limit.change in omega (arith, c) }
    by stage.Wide = lean

-- ---- steps

rec_append : (xs ys : List PlainStep) → AreSteps xs → AreSteps ys → AreSteps (xs ++ ys)
rec_append [] ys a b = b
rec_append (x ∷ xs) ys a b = (a.0, rec_append xs ys a.1 b)

turns_steps : (t : Terms) (number : ℕ) (items : List Item) (sizes : List ℕ) (us : List Turn) → AreSearchable t → HasLimits t → AreSearched items sizes → All (λ (u : Turn). HasSteps u.stage) us → AreSteps (map (step_with t number items sizes) us)
turns_steps t number items sizes [] h limit pool some = tt
turns_steps t number items sizes (u ∷ us) h limit pool some =
    let P : Turn → Type 0 = λ x. HasSteps x.stage in (
      step_fits t number items sizes u (problem_by t items u.stage) _ sizes h pool (All-head P u us some) (problem_is t items u.stage h limit pool.fit) refl refl refl,
      turns_steps t number items sizes us h limit pool (All-tail P u us some),
    )

row_steps : (p : PlainPlan) (row : Row) → IsPlan p → IsRoomy p row → AreSteps (steps_at (basis_of p) (row_in (basis_of p) row))
row_steps p row h roomy = by (turns_in (basis_of p)) (ready p h)
  where
    by : (us : List Turn) → AreReady (rates_of p.request) (load_alone (basis_of p)) us → AreSteps (map (step_by (terms_in (basis_of p) (row_in (basis_of p) row)) (row_in (basis_of p) row)) us)
    by [] are = tt
    by (u ∷ us) are =
        let r = row_in (basis_of p) row in
        turns_steps (terms_in (basis_of p) r) row.number r.pool.items (sizes_of r.pool.groups) (u ∷ us)
        (row_searchable (rates_of p.request) (load_alone (basis_of p)) (u ∷ us) (sum_by (λ (g : List Candidate). length g) r.pool.groups) are (omega arith))
        (limits (rates_of p.request) (load_with (load_alone (basis_of p)) (sum_by (λ (g : List Candidate). length g) r.pool.groups)))
        (seen p h row roomy)
        are.stages

rows_steps : (p : PlainPlan) (rows : List Row) → IsPlan p → All (IsRoomy p) rows → AreSteps (flat_map (steps_at (basis_of p)) (map (row_in (basis_of p)) rows))
rows_steps p [] h roomy = tt
rows_steps p (row ∷ rows) h roomy =
    rec_append (steps_at (basis_of p) (row_in (basis_of p) row)) (flat_map (steps_at (basis_of p)) (map (row_in (basis_of p)) rows)) (row_steps p row h (All-head (IsRoomy p) row rows roomy))
    (rows_steps p rows h (All-tail (IsRoomy p) row rows roomy))

pub steps_are : (p : PlainPlan) → IsPlan p → AreSteps (steps_of p)
unfolding steps_by
steps_are p h = rows_steps p (ladder_in p) h h.roomy
