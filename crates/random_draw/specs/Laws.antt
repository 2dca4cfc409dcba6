-- What is said of orders and draws in words of their own.
use Rattle.std.specs.Prelude.{◌≡◌, ℕ, ◌<◌, ◌≤◌, ◌⊎◌, List, [], ◌∷◌, length, take, drop, Contains, Option, Some, None}
use Rattle.pick_problem.specs.Pool.{item_at}
use Rattle.pick_problem.specs.Problem.{PlainProblem, value_of, weight_of}
use Rattle.random_draw.specs.Draw.{kept_with}

-- a place d is worth less than a place r, or as much, and is the greater one
abbrev pub GoesFirst : PlainProblem → ℕ → ℕ → Type 0
GoesFirst p d r = ((item_at p.items d).value < (item_at p.items r).value) ⊎ (((item_at p.items d).value ≡ (item_at p.items r).value) × (r < d))

-- What stays of rising places: their first ones, not above the limit, where one more of them would be; and each that is
-- dropped goes before each that stays.
pub record StaysOf (p : PlainProblem) (all stays : List ℕ) : Type 0 where
  pub light : weight_of p stays ≤ p.most_weight
  pub first : stays ≡ take (length stays) all
  pub longest : (n : ℕ) → length stays < n → n ≤ length all → p.most_weight < weight_of p (take n all)
  pub dropped : (d r : ℕ) → Contains (drop (length stays) all) d → Contains stays r → GoesFirst p d r

-- what is kept once these places are added, one after another
unfoldable pub kept_after : PlainProblem → List ℕ → List ℕ → List ℕ
kept_after p kept [] = kept
kept_after p kept (j ∷ js) = kept_after p (kept_with p kept j) js

-- what is kept when lo is reached for the first time, as to some that are kept others are added in an order
pub record IsFirstReached (p : PlainProblem) (kept order found : List ℕ) : Type 0 where
  pub added : ℕ
  pub some : 0 < added
  pub within : added ≤ length order
  pub stays : found ≡ kept_after p kept (take added order)
  pub reaches : p.lo ≤ value_of p found
  pub before : (n : ℕ) → 0 < n → n < added → value_of p (kept_after p kept (take n order)) < p.lo

-- lo is never reached
abbrev pub IsNeverReached : PlainProblem → List ℕ → List ℕ → Type 0
IsNeverReached p kept order = (n : ℕ) → 0 < n → n ≤ length order → value_of p (kept_after p kept (take n order)) < p.lo

-- what is found is what is kept when lo is reached for the first time; nothing, where it never is
abbrev pub Finds : PlainProblem → List ℕ → List ℕ → Option (List ℕ) → Type 0
Finds p kept order None = IsNeverReached p kept order
Finds p kept order (Some found) = IsFirstReached p kept order found
