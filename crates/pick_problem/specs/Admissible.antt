-- Admissible selections.
use Rattle.std.specs.Prelude.{◌≡◌, ℕ, ◌-◌, ◌<◌, ◌≤◌, ◌⊎◌, List, [], ◌∷◌, length, All, Option, Some, None}
use Rattle.pick_problem.specs.declared.item.Kind.{Kind}
use Rattle.pick_problem.specs.declared.item.Kind.TheVariants.{Changeless, Lean}
use Rattle.pick_problem.specs.Pool.{item_at}
use Rattle.pick_problem.specs.Problem.{PlainProblem, Rising, value_of, weight_of}

-- without any one of its places a list is below lo
abbrev pub NeedsEach : PlainProblem → List ℕ → Type 0
NeedsEach p q = All (λ j. value_of p q - (item_at p.items j).value < p.lo) q

-- what is asked beside value and weight: without change no more than hi, and no item that isn't needed
abbrev pub Fits : Kind → PlainProblem → List ℕ → Type 0
Fits Changeless p q = (value_of p q ≤ p.hi) × NeedsEach p q
Fits Lean p q = Unit {0}

-- a selection, which is a rising list of places, not empty, that reaches lo within the limit of weight
pub record IsAdmissible (p : PlainProblem) (q : List ℕ) : Type 0 where
  pub some : 0 < length q
  pub rising : Rising (length p.items) 0 q
  pub reaches : p.lo ≤ value_of p q
  pub light : weight_of p q ≤ p.most_weight
  pub fits : Fits p.kind p q

-- nothing, or an admissible selection
abbrev pub IsFit : PlainProblem → Option (List ℕ) → Type 0
IsFit p None = Unit {0}
IsFit p (Some a) = IsAdmissible p a

-- the first list is the second with some of its places left out, or with none
abbrev pub IsPart : List ℕ → List ℕ → Type 0
IsPart [] r = Unit {0}
IsPart (x ∷ q) [] = ⊥
IsPart (x ∷ q) (y ∷ r) = ((x ≡ y) × IsPart q r) ⊎ IsPart (x ∷ q) r
