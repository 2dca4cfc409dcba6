-- Sums over lists of places, and the steps of the loops that take them.
use Rattle.std.specs.Prelude.{◌≡◌, ℕ, zero, suc, ◌+◌, ◌*◌, ◌<◌, ◌≤◌, List, [], ◌∷◌, ◌++◌, length, take, get_or, ℤ, pos, neg_ℤ, ◌+ℤ◌, ◌≤ℤ◌}
use Rattle.std.specs.Int.{w64}
use Rattle.std.proofs.Common.{arith, ap, ◌∙◌, to_z, of_z}
use Rattle.std.proofs.lemmas.Int.{ints}
use Rattle.std.proofs.lemmas.List.{take_more}
use Rattle.pick_problem.specs.declared.item.Item.{Item}
use Rattle.pick_problem.specs.Pool.{IsItem, no_item, item_at}
use Rattle.pick_problem.specs.Problem.{PlainProblem, IsProblem, Rising, value_of, weight_of, cost_of}

pub value-append : (p : PlainProblem) (a b : List ℕ) → value_of p (a ++ b) ≡ value_of p a + value_of p b
value-append p [] b = omega arith
value-append p (j ∷ a) b = omega (arith, value-append p a b)

pub weight-append : (p : PlainProblem) (a b : List ℕ) → weight_of p (a ++ b) ≡ weight_of p a + weight_of p b
weight-append p [] b = omega arith
weight-append p (j ∷ a) b = omega (arith, weight-append p a b)

pub cost-append : (p : PlainProblem) (a b : List ℕ) → cost_of p (a ++ b) ≡ cost_of p a +ℤ cost_of p b
cost-append p [] b = omega (arith, ints)
cost-append p (j ∷ a) b = omega (arith, ints, cost-append p a b)

Rising_at : (n t : ℕ) (q : List ℕ) (i : ℕ) → Rising n t q → i < length q → get_or q i 0 < n
Rising_at n t [] i h l = absurd (omega arith)
Rising_at n t (j ∷ q) zero h l = h.1
Rising_at n t (j ∷ q) (suc i) h l = Rising_at n (j + 1) q i h.2 (omega arith)

pub place_below : (n : ℕ) (q : List ℕ) (i : ℕ) → Rising n 0 q → i < length q → get_or q i 0 < n
place_below n q i h l = Rising_at n 0 q i h l

pub Rising-length : (n t : ℕ) (q : List ℕ) → Rising n t q → t ≤ n → length q + t ≤ n
Rising-length n t [] h l = omega arith
Rising-length n t (j ∷ q) h l = let rest : length q + (j + 1) ≤ n = Rising-length n (j + 1) q h.2 (omega (arith, h.1)) in omega (arith, h.0, rest)

pub places_few : (n : ℕ) (q : List ℕ) → Rising n 0 q → length q ≤ n
places_few n q h = omega (arith, Rising-length n 0 q h (omega arith))

-- the item at a place that is there
pub item_is : (p : PlainProblem) (j : ℕ) → IsProblem p → j < length p.items → IsItem (item_at p.items j)
item_is p j is h = is.items.each j no_item h

-- what the loops keep: the sum so far, and its bound
pub record ValueSoFar (p : PlainProblem) (places : List ℕ) (i sum : ℕ) : Type 0 where
  pub is : sum ≡ value_of p (take i places)
  pub small : sum ≤ i * 210_000_000_000_000_000

pub record WeightSoFar (p : PlainProblem) (places : List ℕ) (i sum : ℕ) : Type 0 where
  pub is : sum ≡ weight_of p (take i places)
  pub small : sum ≤ i * 40_000_000

pub record CostSoFar (p : PlainProblem) (places : List ℕ) (i : ℕ) (sum : ℤ) : Type 0 where
  pub is : sum ≡ cost_of p (take i places)
  pub low : neg_ℤ (pos (i * 10_000_000_000_000)) ≤ℤ sum
  pub high : sum ≤ℤ pos (i * 1_000_000_000_000_000_000)

pub value_more : (p : PlainProblem) (items : List Item) (places : List ℕ) (i sum x : ℕ) → IsProblem p → items ≡ p.items → Rising (length p.items) 0 places → i < length places → x ≡ (get_or items (get_or places i 0) no_item).value → ValueSoFar p places i sum → ValueSoFar p places (i + 1) (sum + x)
value_more p items places i sum x is same rising below at so =
    let item : IsItem (item_at p.items (get_or places i 0)) = item_is p (get_or places i 0) is (place_below (length p.items) places i rising below) in
    let here : x ≡ (item_at p.items (get_or places i 0)).value = at ∙ ap (λ (xs : List Item). (get_or xs (get_or places i 0) no_item).value) same in
    let more : value_of p (take (i + 1) places) ≡ value_of p (take i places) + value_of p (get_or places i 0 ∷ []) = ap (value_of p) (take_more places i 0 below) ∙ value-append p (take i places) (get_or places i 0 ∷ []) in
    record { is = omega (arith, more, here, so.is); small = omega (arith, item.value, here, so.small) }

pub weight_more : (p : PlainProblem) (items : List Item) (places : List ℕ) (i sum x : ℕ) → IsProblem p → items ≡ p.items → Rising (length p.items) 0 places → i < length places → x ≡ (get_or items (get_or places i 0) no_item).weight → WeightSoFar p places i sum → WeightSoFar p places (i + 1) (sum + x)
weight_more p items places i sum x is same rising below at so =
    let item : IsItem (item_at p.items (get_or places i 0)) = item_is p (get_or places i 0) is (place_below (length p.items) places i rising below) in
    let here : x ≡ (item_at p.items (get_or places i 0)).weight = at ∙ ap (λ (xs : List Item). (get_or xs (get_or places i 0) no_item).weight) same in
    let more : weight_of p (take (i + 1) places) ≡ weight_of p (take i places) + weight_of p (get_or places i 0 ∷ []) = ap (weight_of p) (take_more places i 0 below) ∙ weight-append p (take i places) (get_or places i 0 ∷ []) in
    record { is = omega (arith, more, here, so.is); small = omega (arith, item.weight, here, so.small) }

pub cost_more : (p : PlainProblem) (items : List Item) (places : List ℕ) (i : ℕ) (sum x : ℤ) → IsProblem p → items ≡ p.items → Rising (length p.items) 0 places → i < length places → x ≡ to_z w64 (of_z w64 (get_or items (get_or places i 0) no_item).cost) → CostSoFar p places i sum → CostSoFar p places (i + 1) (sum +ℤ x)
cost_more p items places i sum x is same rising below at so =
    let item : IsItem (item_at p.items (get_or places i 0)) = item_is p (get_or places i 0) is (place_below (length p.items) places i rising below) in
    let cost_is : (get_or items (get_or places i 0) no_item).cost ≡ (item_at p.items (get_or places i 0)).cost = ap (λ (xs : List Item). (get_or xs (get_or places i 0) no_item).cost) same in
    let here : x ≡ (item_at p.items (get_or places i 0)).cost = omega (arith, ints, at, cost_is, item.cost) in
    let more : cost_of p (take (i + 1) places) ≡ cost_of p (take i places) +ℤ cost_of p (get_or places i 0 ∷ []) = ap (cost_of p) (take_more places i 0 below) ∙ cost-append p (take i places) (get_or places i 0 ∷ []) in
    record {
      is = omega (arith, ints, more, here, so.is);
      low = omega (arith, ints, item.cost, here, so.low);
      high = omega (arith, ints, item.cost, here, so.high);
    }
