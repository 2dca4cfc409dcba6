-- Least whole numbers.
use Rattle.std.specs.Prelude.{ℕ, ◌≤◌}

-- n has the property, and no smaller number has it
pub record IsLeast (P : ℕ → Type 0) (n : ℕ) : Type 0 where
  pub holds : P n
  pub least : (m : ℕ) → P m → n ≤ m
