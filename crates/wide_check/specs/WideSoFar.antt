-- What is known of the part of a wide tree that is read so far.
use Rattle.std.specs.Prelude.{◌≡◌, ℕ, ◌+◌, ◌<◌, ◌≤◌, ◌⊎◌, Bool, true, false, List, [], ◌∷◌, length, ◌<ℤ◌, Option, Some, None}
use Rattle.pick_problem.specs.Problem.{PlainProblem, Rising}
use Rattle.wide_check.specs.Wide.{IsWide, is_met_before, waste_of}
use Rattle.wide_check.specs.WideSteps.{WideState}

-- q stands below the node of the chosen places and the next place t, or below a node that still waits: it goes on from
-- some first ones of the chosen places without the next one of these, or from all of them. It is the chosen places
-- themselves only where the node was just entered
abbrev pub IsOpen : ℕ → Bool → List ℕ → ℕ → List ℕ → Type 0
IsOpen n entered [] t q = Rising n t q × (entered ≡ false → 0 < length q)
IsOpen n entered (j ∷ chosen) t q = (Rising n (j + 1) q × (0 < length q)) ⊎ ((r : List ℕ) × (q ≡ j ∷ r) × IsOpen n entered chosen t r)

abbrev pub IsStillOpen : PlainProblem → Bool → Bool → List ℕ → ℕ → List ℕ → Type 0
IsStillOpen p true entered chosen t q = ⊥
IsStillOpen p false entered chosen t q = IsOpen (length p.items) entered chosen t q

-- q is met after the answer
abbrev pub ComesAfter : Option (List ℕ) → List ℕ → Type 0
ComesAfter None q = Unit {0}
ComesAfter (Some best) q = is_met_before best q ≡ true

-- q wastes more than the answer; or the answer was met, and q is it, or wastes as much and is met after it
abbrev pub IsBeaten : PlainProblem → Option (List ℕ) → Bool → List ℕ → Type 0
IsBeaten p None met q = ⊥
IsBeaten p (Some best) met q = (waste_of p best <ℤ waste_of p q) ⊎ ((met ≡ true) × (waste_of p best ≡ waste_of p q) × ((q ≡ best) ⊎ (is_met_before best q ≡ true)))

-- q is still open, and is met after the answer where that was met; or it is beaten
abbrev pub Stands : PlainProblem → Option (List ℕ) → WideState → List ℕ → Type 0
Stands p a s q = (IsStillOpen p s.closed s.entered s.chosen s.next q × (s.met ≡ true → ComesAfter a q)) ⊎ IsBeaten p a s.met q

-- what each allowed step keeps: the chosen places rise below the next one, and each selection is still open or beaten
pub record SoFar (p : PlainProblem) (a : Option (List ℕ)) (s : WideState) : Type 0 where
  pub chosen : Rising s.next 0 s.chosen
  pub within : s.next ≤ length p.items
  pub each : (q : List ℕ) → IsWide p q → Stands p a s q
