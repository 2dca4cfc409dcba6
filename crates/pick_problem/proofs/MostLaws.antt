-- What rising lists of places come to at most.
use Rattle.std.specs.Prelude.{ℕ, ◌+◌, ◌*◌, ◌≤◌, List, [], ◌∷◌, length, pos, neg_ℤ, ◌≤ℤ◌}
use Rattle.std.proofs.Common.{arith}
use Rattle.std.proofs.lemmas.Int.{ints}
use Rattle.pick_problem.specs.Pool.{IsItem, item_at}
use Rattle.pick_problem.specs.Problem.{PlainProblem, IsProblem, Rising, value_of, weight_of, cost_of}
use Rattle.pick_problem.proofs.SumLaws.{item_is, places_few}

module _ (p : PlainProblem) (is : IsProblem p) where
  pub value-most : (t : ℕ) (q : List ℕ) → Rising (length p.items) t q →
      value_of p q ≤ length q * 210_000_000_000_000_000
  value-most t [] h = omega arith
  value-most t (j ∷ q) h =
      let item : IsItem (item_at p.items j) = item_is p j is h.1 in
      let rest : value_of p q ≤ length q * 210_000_000_000_000_000 = value-most (j + 1) q h.2 in
      omega (arith, item.value, rest)

  pub weight-most : (t : ℕ) (q : List ℕ) → Rising (length p.items) t q → weight_of p q ≤ length q * 40_000_000
  weight-most t [] h = omega arith
  weight-most t (j ∷ q) h =
      let item : IsItem (item_at p.items j) = item_is p j is h.1 in
      let rest : weight_of p q ≤ length q * 40_000_000 = weight-most (j + 1) q h.2 in
      omega (arith, item.weight, rest)

  pub cost-least : (t : ℕ) (q : List ℕ) → Rising (length p.items) t q →
      neg_ℤ (pos (length q * 10_000_000_000_000)) ≤ℤ cost_of p q
  cost-least t [] h = omega (arith, ints)
  cost-least t (j ∷ q) h =
      let item : IsItem (item_at p.items j) = item_is p j is h.1 in
      let rest : neg_ℤ (pos (length q * 10_000_000_000_000)) ≤ℤ cost_of p q = cost-least (j + 1) q h.2 in
      omega (arith, ints, item.cost, rest)

  pub cost-most : (t : ℕ) (q : List ℕ) → Rising (length p.items) t q →
      cost_of p q ≤ℤ pos (length q * 1_000_000_000_000_000_000)
  cost-most t [] h = omega (arith, ints)
  cost-most t (j ∷ q) h =
      let item : IsItem (item_at p.items j) = item_is p j is h.1 in
      let rest : cost_of p q ≤ℤ pos (length q * 1_000_000_000_000_000_000) = cost-most (j + 1) q h.2 in
      omega (arith, ints, item.cost, rest)

  -- the sums of any rising list
  pub record SmallSums (q : List ℕ) : Type 0 where
    pub value : value_of p q ≤ 2_100_000_000_000_000_000_000
    pub weight : weight_of p q ≤ 400_000_000_000
    pub low : neg_ℤ (pos 100_000_000_000_000_000) ≤ℤ cost_of p q
    pub high : cost_of p q ≤ℤ pos 10_000_000_000_000_000_000_000

  pub small_sums : (q : List ℕ) → Rising (length p.items) 0 q → SmallSums q
  small_sums q h =
      let few : length q ≤ length p.items = places_few (length p.items) q h in
      let value : value_of p q ≤ length q * 210_000_000_000_000_000 = value-most 0 q h in
      let weight : weight_of p q ≤ length q * 40_000_000 = weight-most 0 q h in
      let low : neg_ℤ (pos (length q * 10_000_000_000_000)) ≤ℤ cost_of p q = cost-least 0 q h in
      let high : cost_of p q ≤ℤ pos (length q * 1_000_000_000_000_000_000) = cost-most 0 q h in
      record {
        value = omega (arith, few, value, is.items.few);
        weight = omega (arith, few, weight, is.items.few);
        low = omega (arith, ints, few, low, is.items.few);
        high = omega (arith, ints, few, high, is.items.few);
      }
