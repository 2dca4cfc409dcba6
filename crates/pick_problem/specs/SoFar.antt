-- What is known of the part of a closing tree that is read so far.
use Rattle.std.specs.Prelude.{◌≡◌, ℕ, ◌+◌, ◌≤◌, ◌⊎◌, Bool, true, false, List, [], ◌∷◌, length, Option, Some, None}
use Rattle.pick_problem.specs.declared.item.Kind.{Kind}
use Rattle.pick_problem.specs.Problem.{PlainProblem, Rising}
use Rattle.pick_problem.specs.Admissible.{IsAdmissible}
use Rattle.pick_problem.specs.Score.{IsBelow, IsSame, score_by}
use Rattle.pick_problem.specs.Best.{comes_before}
use Rattle.pick_problem.specs.Steps.{State}

-- q stands below the node of the chosen places and the next place t, or below a node that still waits: it begins with
-- some first ones of the chosen places and goes on without the next one of these, or begins with all of them
abbrev pub IsOpen : ℕ → List ℕ → ℕ → List ℕ → Type 0
IsOpen n [] t q = Rising n t q
IsOpen n (j ∷ chosen) t q = Rising n (j + 1) q ⊎ ((r : List ℕ) × (q ≡ j ∷ r) × IsOpen n chosen t r)

abbrev pub IsStillOpen : PlainProblem → Bool → List ℕ → ℕ → List ℕ → Type 0
IsStillOpen p true chosen t q = ⊥
IsStillOpen p false chosen t q = IsOpen (length p.items) chosen t q

-- q comes after the answer
abbrev pub ComesAfter : Option (List ℕ) → List ℕ → Type 0
ComesAfter None q = Unit {0}
ComesAfter (Some best) q = comes_before best q ≡ true

-- q has a greater score than the answer; or the answer was met, and q is it, or has its score and comes after it
abbrev pub IsBeaten : Kind → PlainProblem → Option (List ℕ) → Bool → List ℕ → Type 0
IsBeaten k p None met q = ⊥
IsBeaten k p (Some best) met q = IsBelow (score_by k p best) (score_by k p q) ⊎ ((met ≡ true) × IsSame (score_by k p best) (score_by k p q) × ((q ≡ best) ⊎ (comes_before best q ≡ true)))

-- q is still open, and comes after the answer where that was met; or it is beaten
abbrev pub Stands : PlainProblem → Option (List ℕ) → State → List ℕ → Type 0
Stands p a s q = (IsStillOpen p s.closed s.chosen s.next q × (s.met ≡ true → ComesAfter a q)) ⊎ IsBeaten p.kind p a s.met q

-- what each allowed step keeps: the chosen places rise below the next one, and each admissible selection is still
-- open or beaten
pub record SoFar (p : PlainProblem) (a : Option (List ℕ)) (s : State) : Type 0 where
  pub chosen : Rising s.next 0 s.chosen
  pub within : s.next ≤ length p.items
  pub each : (q : List ℕ) → IsAdmissible p q → Stands p a s q
