-- All rising lists of places, by number.
use Rattle.std.specs.Prelude.{◌≡◌, ℕ, zero, suc, ◌+◌, ◌/◌, ◌%◌, ◌==◌, ◌⊎◌, List, [], ◌∷◌, Option, Some, None, if◌then◌else◌}
use Rattle.pick_problem.specs.Problem.{PlainProblem}
use Rattle.pick_problem.specs.Best.{IsBetter}

-- of so many places from t on those whose bits are set in m, the lowest bit for t
abbrev pub places_from : ℕ → ℕ → ℕ → List ℕ
places_from zero t m = []
places_from (suc k) t m = if m % 2 == 1 then t ∷ places_from k (t + 1) (m / 2) else places_from k (t + 1) (m / 2)

-- q is the one that was found, or that one is better
abbrev pub IsNoBetter : PlainProblem → Option (List ℕ) → List ℕ → Type 0
IsNoBetter p None q = ⊥
IsNoBetter p (Some a) q = (q ≡ a) ⊎ IsBetter p a q
