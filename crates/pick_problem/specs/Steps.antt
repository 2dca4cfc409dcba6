-- A closing tree, read by steps. A node is a list of chosen places and the next place: all places before the next
-- one are decided. Below it stand the selections that go on from the chosen places with places from the next one on.
--
-- The guarantee: each allowed step keeps that every admissible selection is still open, or is beaten by the answer. So
-- whoever wrote the steps, once they close the tree, the answer is the best, or without one nothing is admissible. Why:
-- I splits a node in two, and each selection below it is below one of them. A close says why nothing below is better.
-- S: not even all that is left reaches lo. O, H and M: values and weights only grow, and below lo one more item is
-- needed. W and L: wastes (where no cost is negative) and weights only grow. F: no later item is worth more than the
-- next one, so what is missing takes so many more, of the least later weight each. A: what is added to a selection that
-- reaches lo could be left out again, or adds weight. Of equal scores the one that stands before wins, so they are
-- given up only after the answer. T passes a run of twins of a place that isn't chosen: with that place instead, each
-- selection is no heavier, scores no worse and stands before, in a branch that was closed already.
use Rattle.std.specs.Prelude.{◌≡◌, ◌≢◌, ℕ, ◌+◌, ◌-◌, ◌*◌, ◌/◌, ◌<◌, ◌≤◌, ◌⊎◌, Bool, true, false, ◌||◌, List, [], ◌∷◌, ◌++◌, length, ℤ, pos, ◌+ℤ◌, ◌<ℤ◌, All, Option, Some, None, IsSomeAnd, bytes_eq}
use Rattle.pick_problem.specs.declared.item.Kind.TheVariants.{Changeless, Lean}
use Rattle.pick_problem.specs.declared.token.Reason.{Reason}
use Rattle.pick_problem.specs.declared.token.Reason.TheVariants.{Short, Over, Heavy, NoRoom, Worse, Heavier, Far, Hit}
use Rattle.pick_problem.specs.declared.token.Token.{Token}
use Rattle.pick_problem.specs.declared.token.Token.TheVariants.{Enter, Pass, Close}
use Rattle.pick_problem.specs.Pool.{item_at}
use Rattle.pick_problem.specs.Problem.{PlainProblem, value_of, weight_of, cost_of}
use Rattle.pick_problem.specs.Admissible.{IsAdmissible}
use Rattle.pick_problem.specs.Score.{score_of, IsBelow, IsSame}
use Rattle.pick_problem.specs.Later.{later_value, least_weight, NoNegative, is_twin, behind_twins}

-- how many items of at most the value v it takes to bring n: the quotient, rounded up
abbrev pub needed : ℕ → ℕ → ℕ
needed n v = (n + (v - 1)) / v

-- above a number, or equal to it where the answer was met before
abbrev pub IsAbove : Bool → ℤ → ℤ → Type 0
IsAbove met x y = (y <ℤ x) ⊎ ((y ≡ x) × (met ≡ true))

-- the chosen places are the answer, or have a greater score, or an equal one where the answer was met before
abbrev pub IsNoBetterThan : PlainProblem → Bool → List ℕ → List ℕ → Type 0
IsNoBetterThan p met chosen best = (chosen ≡ best) ⊎ (IsBelow (score_of p best) (score_of p chosen) ⊎ (IsSame (score_of p best) (score_of p chosen) × (met ≡ true)))

-- for what reason the node of the chosen places and the next place t may be closed: nothing below it is better than
-- the answer, or, without an answer, admissible
abbrev pub Closes : PlainProblem → Option (List ℕ) → Bool → List ℕ → ℕ → Reason → Type 0
-- all that is left doesn't reach lo
Closes p a met chosen t Short = value_of p chosen + later_value p t < p.lo
-- it is above hi already
Closes p a met chosen t Over = (p.kind ≡ Changeless) × (p.hi < value_of p chosen)
-- it is too heavy already
Closes p a met chosen t Heavy = p.most_weight < weight_of p chosen
-- it needs one more item, and is too heavy with the lightest one
Closes p a met chosen t NoRoom = (value_of p chosen < p.lo) × (t < length p.items) × (p.most_weight < weight_of p chosen + least_weight p t)
-- it wastes more than the answer, and no item has a negative cost
Closes p a met chosen t Worse = (p.kind ≡ Changeless) × NoNegative p × IsSomeAnd a (λ best. IsAbove met (cost_of p chosen +ℤ pos (value_of p chosen - p.lo)) (score_of p best).first)
-- it is heavier than the answer already
Closes p a met chosen t Heavier = (p.kind ≡ Lean) × IsSomeAnd a (λ best. weight_of p best < weight_of p chosen)
-- it is heavier than the answer with as many of the lightest items as it needs at least
Closes p a met chosen t Far = (p.kind ≡ Lean) × (value_of p chosen < p.lo) × (t < length p.items) × IsSomeAnd a (λ best. weight_of p best < weight_of p chosen + needed (p.lo - value_of p chosen) (item_at p.items t).value * least_weight p t)
-- it reaches lo, so nothing that is added helps; where it is admissible itself, it is no better than the answer
Closes p a met chosen t Hit = (p.lo ≤ value_of p chosen) × (IsAdmissible p chosen → IsSomeAnd a (IsNoBetterThan p met chosen))

-- where a token may stand at a node
abbrev pub IsAllowedAt : PlainProblem → Option (List ℕ) → Bool → List ℕ → ℕ → Token → Type 0
IsAllowedAt p a met chosen t Enter = t < length p.items
-- the place before isn't chosen, and t is a twin of it
IsAllowedAt p a met chosen t Pass = (0 < t) × (t < length p.items) × All (λ j. j ≢ t - 1) chosen × (is_twin p.kind (item_at p.items (t - 1)) (item_at p.items t) ≡ true)
IsAllowedAt p a met chosen t (Close reason) = Closes p a met chosen t reason

abbrev pub met_at : Option (List ℕ) → Bool → List ℕ → Bool
met_at None met chosen = met
met_at (Some best) met chosen = met || bytes_eq chosen best

-- whether the answer is met after a node that is closed
abbrev pub met_behind : Option (List ℕ) → Bool → List ℕ → Reason → Bool
met_behind a met chosen Hit = met_at a met chosen
met_behind a met chosen _ = met

-- where the reading of a tree stands
pub record State : Type 0 where
  pub chosen : List ℕ
  pub next : ℕ
  pub closed : Bool
  pub met : Bool

abbrev pub root : State
root = record { chosen = []; next = 0; closed = false; met = false }

abbrev pub with_first : ℕ → Option (List ℕ × ℕ) → Option (List ℕ × ℕ)
with_first x None = Some ([], x)
with_first x (Some r) = Some (x ∷ r.0, r.1)

-- a list without its last element, and that element
abbrev pub split_last : List ℕ → Option (List ℕ × ℕ)
split_last [] = None
split_last (x ∷ xs) = with_first x (split_last xs)

-- the state of a closed tree
abbrev pub closed : PlainProblem → Bool → State
closed p met = record { chosen = []; next = length p.items; closed = true; met = met }

abbrev pub left_at : PlainProblem → Bool → Option (List ℕ × ℕ) → State
left_at p met None = closed p met
left_at p met (Some r) = record { chosen = r.0; next = r.1 + 1; closed = false; met = met }

-- the state after a node that is closed: the node without the last chosen place, or the tree is closed
abbrev pub left : PlainProblem → Bool → List ℕ → State
left p met chosen = left_at p met (split_last chosen)

-- where a token leads
abbrev pub after : PlainProblem → Option (List ℕ) → State → Token → State
after p a s Enter = record s { chosen = s.chosen ++ s.next ∷ []; next = s.next + 1 }
after p a s Pass = record s { next = behind_twins p s.next }
after p a s (Close reason) = left p (met_behind a s.met s.chosen reason) s.chosen

-- a step is allowed where the tree isn't closed and the token may stand at the node
abbrev pub IsAllowed : PlainProblem → Option (List ℕ) → State → Token → Type 0
IsAllowed p a s token = (s.closed ≡ false) × IsAllowedAt p a s.met s.chosen s.next token

abbrev pub after_all : PlainProblem → Option (List ℕ) → State → List Token → State
after_all p a s [] = s
after_all p a s (k ∷ ks) = after_all p a (after p a s k) ks

abbrev pub AreAllowed : PlainProblem → Option (List ℕ) → State → List Token → Type 0
AreAllowed p a s [] = Unit {0}
AreAllowed p a s (k ∷ ks) = IsAllowed p a s k × AreAllowed p a (after p a s k) ks

-- from the root the steps of the tokens are all allowed, and the last one closes the tree
abbrev pub IsClosedBySteps : PlainProblem → Option (List ℕ) → List Token → Bool → Type 0
IsClosedBySteps p a tokens met = AreAllowed p a root tokens × (after_all p a root tokens ≡ closed p met)
