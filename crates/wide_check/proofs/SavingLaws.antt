-- What places save: later ones no more, and none more than all of them.
use Rattle.std.specs.Prelude.{◌≡◌, ℕ, zero, suc, ◌+◌, ◌-◌, ◌*◌, ◌<◌, ◌≤◌, List, [], ◌∷◌, length, get_or, drop, ℤ, pos, neg_ℤ, ◌+ℤ◌, ◌≤ℤ◌, ◌<ℤ◌, int_lt, true, All, FitsSigned}
use Rattle.std.specs.Int.{int_min, w64, w128}
use Rattle.std.proofs.Common.{arith, refl, sym, ap, subst, to_z, of_z}
use Rattle.std.proofs.lemmas.Int.{clamps, ints}
use Rattle.std.proofs.lemmas.List.Elements.{All-head, All-tail}
use Rattle.pick_problem.specs.declared.item.Item.{Item}
use Rattle.pick_problem.specs.Pool.{IsItem, no_item, item_at}
use Rattle.pick_problem.specs.Problem.{PlainProblem, IsProblem, Rising, cost_of}
use Rattle.pick_problem.proofs.Deciding.{zlt_yes}
use Rattle.pick_problem.proofs.SumLaws.{item_is}
use Rattle.wide_check.specs.WideSteps.{savings, total_savings}

saving_step : (xs : List Item) (t : ℕ) → t < length xs →
    total_savings (drop t xs) ≡ int_min (get_or xs t no_item).cost (pos 0) +ℤ total_savings (drop (t + 1) xs)
saving_step [] t l = absurd (omega arith)
saving_step (x ∷ xs) zero l = refl
saving_step (x ∷ xs) (suc t) l =
    let e : suc t + 1 ≡ suc (t + 1) = omega arith in
    subst (λ (k : ℕ). total_savings (drop t xs) ≡ int_min (get_or xs t no_item).cost (pos 0) +ℤ total_savings (drop k (x ∷ xs))) (sym e) (saving_step xs t (omega arith))

-- the savings from a place on are those of its item and of what is after it
pub savings_step : (p : PlainProblem) (t : ℕ) → t < length p.items →
    savings p t ≡ int_min (item_at p.items t).cost (pos 0) +ℤ savings p (t + 1)
savings_step p t l = saving_step p.items t l

pub savings_negative : (p : PlainProblem) (t : ℕ) → t < length p.items → (item_at p.items t).cost <ℤ pos 0 →
    (item_at p.items t).cost +ℤ savings p (t + 1) ≡ savings p t
savings_negative p t l low = omega (arith, ints, clamps, savings_step p t l, low)

pub savings_plain : (p : PlainProblem) (t : ℕ) → t < length p.items → pos 0 ≤ℤ (item_at p.items t).cost →
    savings p (t + 1) ≡ savings p t
savings_plain p t l high = omega (arith, ints, clamps, savings_step p t l, high)

total_below : (xs : List Item) → total_savings xs ≤ℤ pos 0
total_below [] = omega (arith, ints)
total_below (x ∷ xs) = omega (arith, ints, clamps, total_below xs)

pub savings_below : (p : PlainProblem) (t : ℕ) → savings p t ≤ℤ pos 0
savings_below p t = total_below (drop t p.items)

saving_one : (xs : List Item) (t : ℕ) → total_savings (drop t xs) ≤ℤ total_savings (drop (t + 1) xs)
saving_one [] zero = omega (arith, ints)
saving_one [] (suc t) =
    let e : suc t + 1 ≡ suc (t + 1) = omega arith in
    subst (λ (k : ℕ). total_savings (drop (suc t) []) ≤ℤ total_savings (drop k [])) (sym e) (omega (arith, ints))
saving_one (x ∷ xs) zero = omega (arith, ints, clamps)
saving_one (x ∷ xs) (suc t) =
    let e : suc t + 1 ≡ suc (t + 1) = omega arith in
    subst (λ (k : ℕ). total_savings (drop t xs) ≤ℤ total_savings (drop k (x ∷ xs))) (sym e) (saving_one xs t)

saving_by : (p : PlainProblem) (s k : ℕ) → savings p s ≤ℤ savings p (s + k)
saving_by p s zero = let e : s + 0 ≡ s = omega arith in subst (λ (t : ℕ). savings p s ≤ℤ savings p t) (sym e) (omega (arith, ints))
saving_by p s (suc k) =
    let e : s + suc k ≡ (s + k) + 1 = omega arith in
    subst (λ (t : ℕ). savings p s ≤ℤ savings p t) (sym e) (omega (arith, ints, saving_one p.items (s + k), saving_by p s k))

-- later places save no more
pub savings_rise : (p : PlainProblem) (s t : ℕ) → s ≤ t → savings p s ≤ℤ savings p t
savings_rise p s t l =
    let e : s + (t - s) ≡ t = omega arith in
    subst (λ (k : ℕ). savings p s ≤ℤ savings p k) e (saving_by p s (t - s))

-- places from t on cost no less than all of these save
pub Rising-saves : (p : PlainProblem) (t : ℕ) (q : List ℕ) → Rising (length p.items) t q → savings p t ≤ℤ cost_of p q
Rising-saves p t [] h = savings_below p t
Rising-saves p t (j ∷ q) h =
    let rest : savings p (j + 1) ≤ℤ cost_of p q = Rising-saves p (j + 1) q h.2 in
    omega (arith, ints, clamps, rest, savings_step p j h.1, savings_rise p t j h.0)

total_least : (xs : List Item) → All IsItem xs → neg_ℤ (pos (length xs * 10_000_000_000_000)) ≤ℤ total_savings xs
total_least [] all = omega (arith, ints)
total_least (x ∷ xs) all =
    let item : IsItem x = All-head IsItem x xs all in
    omega (arith, ints, clamps, total_least xs (All-tail IsItem x xs all), item.cost)

-- all places together
savings_all : (p : PlainProblem) → savings p 0 ≡ total_savings p.items
savings_all p = refl

-- savings are no lower than 10,000 times the least cost
pub savings_least : (p : PlainProblem) → IsProblem p → (t : ℕ) → neg_ℤ (pos 100_000_000_000_000_000) ≤ℤ savings p t
savings_least p is t = omega (arith, ints, savings_rise p 0 t (omega arith), savings_all p, total_least p.items is.items.each, is.items.few)

-- ---- the rows of a table

module _ (p : PlainProblem) (is : IsProblem p) (t : ℕ) (below : t < length p.items) (x : Item) (y b : ℤ) (same : x ≡ item_at p.items t) (wide : y ≡ to_z w64 (of_z w64 x.cost)) (behind : b ≡ savings p (t + 1)) where
  cost_is : x.cost ≡ (item_at p.items t).cost
  cost_is = ap (λ (z : Item). z.cost) same

  pub row_fits : FitsSigned w128 (to_z w128 (of_z w128 y) +ℤ to_z w128 (of_z w128 b))
  row_fits =
      let item : IsItem (item_at p.items t) = item_is p t is below in
      omega (arith, ints, wide, behind, cost_is, item.cost, savings_least p is (t + 1), savings_below p (t + 1))

  -- a negative cost is saved beside what is saved after it
  pub row_sum : int_lt (to_z w64 (of_z w64 x.cost)) (pos 0) ≡ true →
      to_z w128 (of_z w128 (to_z w128 (of_z w128 y) +ℤ to_z w128 (of_z w128 b))) ≡ savings p t
  row_sum test =
      let item : IsItem (item_at p.items t) = item_is p t is below in
      let low : to_z w64 (of_z w64 x.cost) <ℤ pos 0 = zlt_yes (to_z w64 (of_z w64 x.cost)) (pos 0) test in
      let negative : (item_at p.items t).cost <ℤ pos 0 = omega (arith, ints, low, cost_is, item.cost) in
      let step : (item_at p.items t).cost +ℤ savings p (t + 1) ≡ savings p t = savings_negative p t below negative in
      omega (arith, ints, step, wide, behind, cost_is, item.cost, savings_least p is (t + 1), savings_below p (t + 1))

-- after the last place nothing is saved
total_none : (xs : List Item) → total_savings (drop (length xs) xs) ≡ pos 0
total_none [] = refl
total_none (x ∷ xs) = total_none xs

pub savings_last : (p : PlainProblem) → savings p (length p.items) ≡ pos 0
savings_last p = total_none p.items
