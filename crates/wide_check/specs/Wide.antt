-- Selections without change that may hold items that aren't needed, and the best of them.
use Rattle.std.specs.Prelude.{◌≡◌, ℕ, ◌<◌, ◌≤◌, ◌⊎◌, ◌==◌, Bool, true, false, List, [], ◌∷◌, ◌++◌, length, ℤ, ◌<ℤ◌, Option, Some, None, if◌then◌else◌, nat_lt}
use Rattle.pick_problem.specs.declared.item.Kind.TheVariants.{Changeless}
use Rattle.pick_problem.specs.Problem.{PlainProblem, IsProblem, Rising, value_of, weight_of}
use Rattle.pick_problem.specs.Score.{score_by}

-- what each problem of a wide search keeps
pub record IsWideProblem (p : PlainProblem) : Type 0 where
  pub problem : IsProblem p
  pub kind : p.kind ≡ Changeless

-- a selection: a rising list of places, not empty, whose value lies from lo to hi within the limit of weight; no item
-- of it has to be needed
pub record IsWide (p : PlainProblem) (q : List ℕ) : Type 0 where
  pub some : 0 < length q
  pub rising : Rising (length p.items) 0 q
  pub reaches : p.lo ≤ value_of p q
  pub under : value_of p q ≤ p.hi
  pub light : weight_of p q ≤ p.most_weight

-- nothing, or such a selection
abbrev pub IsWideFit : PlainProblem → Option (List ℕ) → Type 0
IsWideFit p None = Unit {0}
IsWideFit p (Some a) = IsWide p a

-- the waste: the first number of the score without change, whose second one is 0
abbrev pub waste_of : PlainProblem → List ℕ → ℤ
waste_of p q = (score_by Changeless p q).first

-- where two lists first differ, the first of them has the smaller place
pub record HasSmaller (a b : List ℕ) : Type 0 where
  pub front : List ℕ
  pub place : ℕ
  pub other : ℕ
  pub rest : List ℕ
  pub behind : List ℕ
  pub first : a ≡ front ++ place ∷ rest
  pub second : b ≡ front ++ other ∷ behind
  pub smaller : place < other

-- the second list goes on where the first one ends
pub record GoesOnFrom (a b : List ℕ) : Type 0 where
  pub place : ℕ
  pub more : List ℕ
  pub is : b ≡ a ++ place ∷ more

-- the lexical order, in which a tree meets lists: a list comes before those that go on from it, and before those that
-- have a greater place where the two first differ
abbrev pub IsMetBefore : List ℕ → List ℕ → Type 0
IsMetBefore a b = GoesOnFrom a b ⊎ HasSmaller a b

-- the same as a test
abbrev pub is_met_before : List ℕ → List ℕ → Bool
is_met_before [] [] = false
is_met_before [] (y ∷ b) = true
is_met_before (x ∷ a) [] = false
is_met_before (x ∷ a) (y ∷ b) = if nat_lt x y then true else if x == y then is_met_before a b else false

-- a wastes less, or as much and is met before
abbrev pub IsWideBetter : PlainProblem → List ℕ → List ℕ → Type 0
IsWideBetter p a b = (waste_of p a <ℤ waste_of p b) ⊎ ((waste_of p a ≡ waste_of p b) × IsMetBefore a b)

-- no selection is better: each is the best itself, or wastes more, or as much and is met later; or there is none
abbrev pub IsWideBest : PlainProblem → Option (List ℕ) → Type 0
IsWideBest p None = (q : List ℕ) → IsWide p q → ⊥
IsWideBest p (Some a) = IsWide p a × ((q : List ℕ) → IsWide p q → (q ≡ a) ⊎ IsWideBetter p a q)
