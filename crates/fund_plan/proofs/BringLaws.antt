-- What a row's coins bring, and what they have to.
use Rattle.std.specs.Prelude.{ℕ, ℤ, pos, ◌≡◌, ◌≤◌, ◌<◌, ◌≤ℤ◌, ◌+◌, ◌-◌, ◌-ℤ◌, ◌==◌, ◌&&◌, not, Bool, true, false, List, [], ◌∷◌, All, int_le, int_lt, length, map, nat_le, sum_by, slice_index_or, if◌then◌else◌}
use Rattle.std.specs.Int.{int_max, int_min}
use Rattle.std.proofs.Common.{refl, ap, ◌∙◌, arith}
use Rattle.std.proofs.lemmas.Bool.Decides.{nat_tests}
use Rattle.std.proofs.lemmas.Int.{clamps, int_max_is, ints}
use Rattle.std.proofs.lemmas.List.{get_or-map}
use Rattle.std.proofs.lemmas.List.Elements.{All-head, All-tail}
use Rattle.std.proofs.lemmas.List.Sums.{sum_by-append, sum_by-cons}
use Rattle.coin_candidates.specs.declared.candidate.Candidate.{Candidate}
use Rattle.fee_rates.proofs.FeeLaws.{fee_below, vsize_below}
use Rattle.fee_rates.specs.Fee.{fee_of, input_fee_of, vsize_of}
use Rattle.fee_rates.proofs.TermsLaws.{some_asked, target_asked}
use Rattle.fee_rates.specs.Terms.{asked_of, base_of, target_of}
use Rattle.request_text.specs.PlainRequest.{paid_to}
use Rattle.output_groups.proofs.OnceLaws.{pool_once}
use Rattle.output_groups.proofs.PoolLaws.{pool_groups}
use Rattle.output_groups.proofs.SortLaws.{is_pool}
use Rattle.output_groups.specs.Measures.{IsGroup, charge_of, gain, is_useful}
use Rattle.output_groups.specs.Pool.{AreOnce, item_of}
use Rattle.output_groups.specs.PoolOf.{pool_of}
use Rattle.output_groups.specs.declared.rows.Row.{Row}
use Rattle.pick_problem.specs.Problem.{PlainProblem, Rising, value_of as value_at, weight_of as weight_at}
use Rattle.pick_problem.specs.declared.item.Item.{Item}
use Rattle.fund_steps.proofs.RowLaws.{filter_candidates}
use Rattle.fund_steps.specs.Amounts.{charges_of, value_of, weight_of}
use Rattle.fund_steps.specs.Listed.{burden_in, presets_in}
use Rattle.fund_steps.specs.Plan.{IsPlan, PlainPlan}
use Rattle.fund_steps.specs.Terms.{load_of, rates_of}
use Rattle.fund_steps.specs.Selection.{is_listed, unlisted}
use Rattle.fund_plan.specs.Chosen.{members}
use Rattle.fund_plan.specs.Pays.{raised_of}
use Rattle.fund_plan.specs.Steps.{is_given, load_in, pool_in}
use Rattle.fund_plan.proofs.PaysLaws.{none_worth, raised_as}

-- ---- the pool of a row

pub once_in : (p : PlainPlan) (row : Row) → IsPlan p → AreOnce (unlisted p.request.coins p.candidates) (pool_in p row).groups
once_in p row h =
    let rest = unlisted p.request.coins p.candidates in
    pool_once p.request.group row p.request.rate p.request.long_term rest (pool_in p row) (filter_candidates (λ c. not (is_listed p.request.coins c.coin)) p.candidates h.candidates) (is_pool p.request.group row p.request.rate p.request.long_term rest)

pub groups_in : (p : PlainPlan) (row : Row) → IsPlan p → All (IsGroup p.request.rate) (pool_in p row).groups
groups_in p row h =
    let rest = unlisted p.request.coins p.candidates in
    pool_groups p.request.group row p.request.rate p.request.long_term rest (pool_in p row) (filter_candidates (λ c. not (is_listed p.request.coins c.coin)) p.candidates h.candidates).each (is_pool p.request.group row p.request.rate p.request.long_term rest)

pub items_in : (p : PlainPlan) (row : Row) → (pool_in p row).items ≡ map (item_of p.request.rate p.request.long_term) (pool_in p row).groups
unfolding pool_of
items_in p row = refl

-- ---- the sums of places are those of their coins

item_there : (rate long_term : ℕ) (groups : List (List Candidate)) (items : List Item) (j : ℕ) (d : Item) → items ≡ map (item_of rate long_term) groups → j < length groups → slice_index_or items j d ≡ item_of rate long_term (slice_index_or groups j [])
item_there rate long_term groups items j d is below =
    ap (λ (xs : List Item). slice_index_or xs j d) is ∙ get_or-map (item_of rate long_term) groups j [] d below

pub values_are : (rate long_term t : ℕ) (groups : List (List Candidate)) (x : PlainProblem) (places : List ℕ) → x.items ≡ map (item_of rate long_term) groups → Rising (length groups) t places → value_at x places ≡ sum_by (gain rate) (members groups places)
values_are rate long_term t groups x [] is rising = refl
values_are rate long_term t groups x (j ∷ places) is rising =
    let here = ap (λ (i : Item). i.value) (item_there rate long_term groups x.items j (record { value = 0; weight = 0; cost = pos 0 }) is rising.1) in
    omega (arith, here, values_are rate long_term (j + 1) groups x places is rising.2, sum_by-append (gain rate) (slice_index_or groups j []) (members groups places))

pub weights_are : (rate long_term t : ℕ) (groups : List (List Candidate)) (x : PlainProblem) (places : List ℕ) → x.items ≡ map (item_of rate long_term) groups → Rising (length groups) t places → weight_at x places ≡ weight_of (members groups places)
weights_are rate long_term t groups x [] is rising = refl
weights_are rate long_term t groups x (j ∷ places) is rising =
    let here = ap (λ (i : Item). i.weight) (item_there rate long_term groups x.items j (record { value = 0; weight = 0; cost = pos 0 }) is rising.1) in
    omega (arith, here, weights_are rate long_term (j + 1) groups x places is rising.2, sum_by-append (λ (c : Candidate). c.weight) (slice_index_or groups j []) (members groups places))

gained : (value fee price : ℕ) → int_lt (pos 0) ((pos value -ℤ pos fee) -ℤ pos price) ≡ true → (value - (fee + price)) + (fee + price) ≡ value
gained value fee price h = grind (arith, ints)

pub gains_are : (rate : ℕ) (coins : List Candidate) → All (λ c. is_useful rate c ≡ true) coins → sum_by (gain rate) coins + charges_of rate coins ≡ value_of coins
gains_are rate [] useful = refl
gains_are rate (c ∷ cs) useful =
    let P : Candidate → Type 0 = λ x. is_useful rate x ≡ true in
    let here = gained c.value (input_fee_of rate c.weight) c.price (All-head P c cs useful) in
    omega (
      arith,
      here,
      gains_are rate cs (All-tail P c cs useful),
      sum_by-cons (gain rate) c cs,
      sum_by-cons (charge_of rate) c cs,
      sum_by-cons (λ (x : Candidate). x.value) c cs,
    )

-- ---- what is to be paid

-- what coins have to bring beside the presets, whose value and fees these are
abbrev pub short_of : (paid base burden raised value fees : ℕ) → ℤ
short_of paid base burden raised value fees = pos (paid + base + burden + raised) -ℤ (pos value -ℤ pos fees)

-- the base with all coins at hand weighs no less than with the presets alone
pub base_more : (n m : ℕ) → (if nat_le n 252 then 1 else 3) ≤ (if nat_le (n + m) 252 then 1 else 3)
base_more n m = grind (arith, nat_tests)

abbrev pub base_fee : PlainPlan → Row → ℕ
base_fee p row = fee_of p.request.rate (vsize_of (base_of (load_in p row)))

asked_in : (p : PlainPlan) (row : Row)
    → asked_of (rates_of p.request) (load_in p row) ≡ short_of (paid_to p.request.recipients) (base_fee p row) (burden_in p) (raised_of p.request.rate (load_in p row)) (value_of (presets_in p)) (charges_of p.request.rate (presets_in p))
unfolding load_of
asked_in p row =
    let given = presets_in p in
    raised_as (not (length given == 0)) (paid_to p.request.recipients + base_fee p row + burden_in p) (value_of given) (charges_of p.request.rate given) (none_worth p.request.rate given)

-- the target is that where coins can bring it
pub target_in : (p : PlainPlan) (row : Row) → target_of (rates_of p.request) (load_in p row) ≤ℤ pos 2_100_000_000_000_000
    → target_of (rates_of p.request) (load_in p row) ≡ short_of (paid_to p.request.recipients) (base_fee p row) (burden_in p) (raised_of p.request.rate (load_in p row)) (value_of (presets_in p)) (charges_of p.request.rate (presets_in p))
target_in p row low = target_asked (rates_of p.request) (load_in p row) (can_be_brought _ low) ∙ asked_in p row
  where
    can_be_brought : (t : ℤ) → t ≤ℤ pos 2_100_000_000_000_000 → t ≤ℤ pos 999_999_999_999_999_999
    can_be_brought t h = omega (arith, ints, h)

fee_more : (p : PlainPlan) (row : Row) → fee_of p.request.rate (vsize_of (base_of (load_of p.request p.change (presets_in p) (burden_in p)))) ≤ base_fee p row
unfolding load_of
fee_more p row =
    let r = p.request in
    let alone = base_of (load_of r p.change (presets_in p) (burden_in p)) in
    let more : alone ≤ base_of (load_in p row) = omega (arith, base_more (length (presets_in p)) (sum_by (λ (g : List Candidate). length g) (pool_in p row).groups)) in
    fee_below r.rate (vsize_of alone) r.rate (vsize_of (base_of (load_in p row))) (omega arith) (vsize_below alone (base_of (load_in p row)) more)

-- at plain numbers: with presets the target is no less than that of the presets alone, and without it is at least 1
some_with : (paid fee more burden : ℕ) (effective : ℤ) → int_le (pos (paid + fee + burden) -ℤ effective) (pos 0) ≡ false → fee ≤ more → pos 1 ≤ℤ (pos (paid + more + burden) -ℤ effective)
some_with paid fee more burden effective above less = grind (arith, ints)

-- a target that is cut is above nothing where the whole is
above_cut : (x : ℤ) → int_le (int_min x (pos 1_000_000_000_000_000_000)) (pos 0) ≡ false → int_le x (pos 0) ≡ false
above_cut x e = no_less x (uncut x (above (int_min x (pos 1_000_000_000_000_000_000)) e))
  where
    above : (z : ℤ) → int_le z (pos 0) ≡ false → pos 1 ≤ℤ z
    above z e = grind (arith, ints, e)

    uncut : (x : ℤ) → pos 1 ≤ℤ int_min x (pos 1_000_000_000_000_000_000) → pos 1 ≤ℤ x
    uncut x h = omega (arith, ints, clamps, h)

    no_less : (z : ℤ) → pos 1 ≤ℤ z → int_le z (pos 0) ≡ false
    no_less z h = grind (arith, ints, h)

some_by : (b : Bool) (paid fee more burden : ℕ) (effective : ℤ)
    → (b && int_le (int_min (if b then pos (paid + fee + burden) -ℤ effective else int_max (pos (paid + fee + burden) -ℤ effective) (pos 1)) (pos 1_000_000_000_000_000_000)) (pos 0)) ≡ false → fee ≤ more
    → pos 1 ≤ℤ (if b then pos (paid + more + burden) -ℤ effective else int_max (pos (paid + more + burden) -ℤ effective) (pos 1))
some_by true paid fee more burden effective above less = some_with paid fee more burden effective (above_cut (pos (paid + fee + burden) -ℤ effective) above) less
some_by false paid fee more burden effective above less = omega (arith, ints, int_max_is (pos (paid + more + burden) -ℤ effective) (pos 1))

-- where it isn't given, something is needed
pub some_target : (p : PlainPlan) (row : Row) → is_given p ≡ false → pos 1 ≤ℤ target_of (rates_of p.request) (load_in p row)
unfolding load_of
some_target p row e =
    let r = p.request in
    let given = presets_in p in
    some_asked (rates_of r) (load_in p row)
    (some_by (not (length given == 0)) (paid_to r.recipients) (fee_of r.rate (vsize_of (base_of (load_of r p.change given (burden_in p))))) (base_fee p row) (burden_in p) (pos (value_of given) -ℤ pos (charges_of r.rate given)) e (fee_more p row))
