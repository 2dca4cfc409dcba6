-- What a table of a pool's savings holds.
use Rattle.std.specs.Prelude.{◌≡◌, ℕ, ◌+◌, ◌≤◌, List, length, ℤ, pos, slice_index_or}
use Rattle.pick_problem.specs.Problem.{PlainProblem}
use Rattle.wide_check.specs.WideSteps.{savings}

-- the row of a place
abbrev pub saving_at : List ℤ → ℕ → ℤ
saving_at rows t = slice_index_or rows t (pos 0)

-- a row for each place, with what all places from it on save, and one after the last place
pub record AreSavings (p : PlainProblem) (rows : List ℤ) : Type 0 where
  pub count : length rows ≡ length p.items + 1
  pub each : (t : ℕ) → t ≤ length p.items → saving_at rows t ≡ savings p t
