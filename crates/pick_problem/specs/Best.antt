-- Which of two selections comes before, and which is the best.
use Rattle.std.specs.Prelude.{◌≡◌, ℕ, ◌<◌, ◌⊎◌, ◌↔◌, ◌==◌, Bool, true, false, List, [], ◌∷◌, Option, Some, None, Contains, if◌then◌else◌, nat_lt}
use Rattle.pick_problem.specs.Problem.{PlainProblem}
use Rattle.pick_problem.specs.Admissible.{IsAdmissible}
use Rattle.pick_problem.specs.Score.{score_of, IsBelow, IsSame}

-- the first place at which two lists differ is in the first of them
pub record ComesBefore (a b : List ℕ) : Type 0 where
  pub place : ℕ
  pub held : Contains a place
  pub lacked : Contains b place → ⊥
  pub same : (t : ℕ) → t < place → (Contains a t ↔ Contains b t)

-- the same as a test, for lists that rise
abbrev pub comes_before : List ℕ → List ℕ → Bool
comes_before [] b = false
comes_before (x ∷ a) [] = true
comes_before (x ∷ a) (y ∷ b) = if nat_lt x y then true else if x == y then comes_before a b else false

-- a has the lower score, or an equal one and comes before
abbrev pub IsBetter : PlainProblem → List ℕ → List ℕ → Type 0
IsBetter p a b = IsBelow (score_of p a) (score_of p b) ⊎ (IsSame (score_of p a) (score_of p b) × ComesBefore a b)

-- no selection is better: each is the best itself, or has a greater score, or an equal one and comes later; or there is
-- none
abbrev pub IsBest : PlainProblem → Option (List ℕ) → Type 0
IsBest p None = (q : List ℕ) → IsAdmissible p q → ⊥
IsBest p (Some a) = IsAdmissible p a × ((q : List ℕ) → IsAdmissible p q → (q ≡ a) ⊎ IsBetter p a q)
