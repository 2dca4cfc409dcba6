-- What a table of a pool's tails holds.
use Rattle.std.specs.Prelude.{◌≡◌, ℕ, ◌+◌, ◌<◌, ◌≤◌, true, false, List, length, slice_index_or}
use Rattle.pick_problem.specs.declared.tails.Tail.{Tail}
use Rattle.pick_problem.specs.Pool.{item_at}
use Rattle.pick_problem.specs.Problem.{PlainProblem}
use Rattle.pick_problem.specs.Later.{later_value, least_weight, behind_twins, is_twin}

abbrev pub no_tail : Tail
no_tail = record { value = 0; weight = 0; end = 0 }

-- the row of a place
abbrev pub tail_at : List Tail → ℕ → Tail
tail_at tails t = slice_index_or tails t no_tail

-- a row holds what is said of the places from t on; after the last place its weight is above that of any item
pub record IsTail (p : PlainProblem) (t : ℕ) (tail : Tail) : Type 0 where
  pub value : tail.value ≡ later_value p t
  pub weight : t < length p.items → tail.weight ≡ least_weight p t
  pub last : length p.items ≤ t → tail.weight ≡ 18_446_744_073_709_551_615
  pub end : t < length p.items → tail.end ≡ behind_twins p (t + 1)

-- a row for each place, and one after the last place
pub record AreTails (p : PlainProblem) (tails : List Tail) : Type 0 where
  pub count : length tails ≡ length p.items + 1
  pub each : (t : ℕ) → t ≤ length p.items → IsTail p t (tail_at tails t)

-- a weight is that of a place from t on, and none of these places weighs less
pub record IsLeastFrom (p : PlainProblem) (t weight : ℕ) : Type 0 where
  pub place : ℕ
  pub behind : t ≤ place
  pub within : place < length p.items
  pub is : weight ≡ (item_at p.items place).weight
  pub least : (j : ℕ) → t ≤ j → j < length p.items → weight ≤ (item_at p.items j).weight

-- a run of twins of t ends at the first place after t that is no twin of it, or after the last place
pub record IsRunEnd (p : PlainProblem) (t end_ : ℕ) : Type 0 where
  pub behind : t < end_
  pub within : end_ ≤ length p.items
  pub twins : (j : ℕ) → t < j → j < end_ → is_twin p.kind (item_at p.items t) (item_at p.items j) ≡ true
  pub ends : end_ < length p.items → is_twin p.kind (item_at p.items t) (item_at p.items end_) ≡ false
