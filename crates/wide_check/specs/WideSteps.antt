-- A wide tree, read by steps. A node is a list of chosen places and the next place: all places before the next one are
-- decided. Below it stand the lists that go on from the chosen places with places from the next one on; and the chosen
-- places themselves, where the node was just entered by the first half of an I. After that they are decided too.
--
-- The guarantee: each allowed step keeps that every selection is still open, or is beaten by the answer. So once
-- the steps close the tree, whoever wrote them, the answer is the best, or without one there is no selection. Why: I splits
-- a node in two, and each list below it is below one of them. The chosen places of a node that was just entered are
-- decided by its first token: where they are a selection, that is B or V, and B is allowed only where they are the
-- answer or no better. A close says why nothing below is better. S: not even all that is left reaches lo. O and H: values
-- and weights only grow. V: costs may be negative, but what is added costs no less than all negative costs of later
-- places together. N: no place is left. T passes a run of twins of a place that isn't chosen: with that place instead,
-- each list wastes as much and is met before, in a branch that was closed already.
use Rattle.std.specs.Prelude.{◌≡◌, ◌≢◌, ℕ, ◌+◌, ◌-◌, ◌<◌, ◌⊎◌, Bool, true, false, List, [], ◌∷◌, ◌++◌, length, drop, ℤ, pos, ◌+ℤ◌, All, Option, Some, None, IsSomeAnd}
use Rattle.std.specs.Int.{int_min}
use Rattle.pick_problem.specs.declared.item.Item.{Item}
use Rattle.pick_problem.specs.Later.{behind_twins, is_twin, later_value}
use Rattle.pick_problem.specs.Pool.{item_at}
use Rattle.pick_problem.specs.Problem.{PlainProblem, cost_of, value_of, weight_of}
use Rattle.pick_problem.specs.Steps.{IsAbove, met_at, split_last}
use Rattle.wide_check.specs.declared.token.WideReason.{WideReason}
use Rattle.wide_check.specs.declared.token.WideReason.TheVariants.{Short, Over, Heavy, Wasteful, Ended}
use Rattle.wide_check.specs.declared.token.WideToken.{WideToken}
use Rattle.wide_check.specs.declared.token.WideToken.TheVariants.{Enter, Pass, Mark, Close}
use Rattle.wide_check.specs.Wide.{IsWide, waste_of}

-- the sum of the negative costs
abbrev pub total_savings : List Item → ℤ
total_savings [] = pos 0
total_savings (x ∷ xs) = int_min x.cost (pos 0) +ℤ total_savings xs

-- what all places from t on save at most: the sum of their negative costs
abbrev pub savings : PlainProblem → ℕ → ℤ
savings p t = total_savings (drop t p.items)

-- what lists that go on from the chosen places with places from t on waste at least
abbrev pub least_waste : PlainProblem → List ℕ → ℕ → ℤ
least_waste p chosen t = (cost_of p chosen +ℤ savings p t) +ℤ pos (value_of p chosen - p.lo)

-- B or V is due: the node was just entered by the first half of an I, and its chosen places are a selection
abbrev pub IsDue : PlainProblem → Bool → List ℕ → Type 0
IsDue p entered chosen = (entered ≡ true) × IsWide p chosen

-- the chosen places are the answer, or waste more, or as much where the answer was met before
abbrev pub IsNoBetterThan : PlainProblem → Bool → List ℕ → List ℕ → Type 0
IsNoBetterThan p met chosen best = (chosen ≡ best) ⊎ IsAbove met (waste_of p chosen) (waste_of p best)

-- for what reason a node may be closed
abbrev pub Closes : PlainProblem → Option (List ℕ) → Bool → List ℕ → ℕ → WideReason → Type 0
-- all that is left doesn't reach lo
Closes p a met chosen t Short = value_of p chosen + later_value p t < p.lo
-- it is above hi already
Closes p a met chosen t Over = p.hi < value_of p chosen
-- it is too heavy already
Closes p a met chosen t Heavy = p.most_weight < weight_of p chosen
-- with all that later places save it wastes more than the answer, or as much where that was met before
Closes p a met chosen t Wasteful = IsSomeAnd a (λ best. IsAbove met (least_waste p chosen t) (waste_of p best))
-- no place is left
Closes p a met chosen t Ended = t ≡ length p.items

-- where a token may stand at a node, whatever is due there
abbrev pub StandsAt : PlainProblem → Option (List ℕ) → Bool → List ℕ → ℕ → WideToken → Type 0
StandsAt p a met chosen t Enter = t < length p.items
-- the place before isn't chosen, and t is a twin of it
StandsAt p a met chosen t Pass = (0 < t) × (t < length p.items) × All (λ j. j ≢ t - 1) chosen × (is_twin p.kind (item_at p.items (t - 1)) (item_at p.items t) ≡ true)
StandsAt p a met chosen t Mark = IsSomeAnd a (λ best. IsNoBetterThan p met chosen best)
StandsAt p a met chosen t (Close reason) = Closes p a met chosen t reason

-- whether a token suits what is due: B where something is, V anywhere, and any other where nothing is
abbrev pub Suits : PlainProblem → Bool → List ℕ → WideToken → Type 0
Suits p entered chosen Enter = ¬ IsDue p entered chosen
Suits p entered chosen Pass = ¬ IsDue p entered chosen
Suits p entered chosen Mark = IsDue p entered chosen
Suits p entered chosen (Close Wasteful) = Unit {0}
Suits p entered chosen (Close reason) = ¬ IsDue p entered chosen

-- where a token is allowed at a node
pub record IsAllowedAt (p : PlainProblem) (a : Option (List ℕ)) (entered met : Bool) (chosen : List ℕ) (t : ℕ) (token : WideToken) : Type 0 where
  pub suits : Suits p entered chosen token
  pub stands : StandsAt p a met chosen t token

-- where the reading of a tree stands
pub record WideState : Type 0 where
  pub chosen : List ℕ
  pub next : ℕ
  -- whether the node was just entered by the first half of an I
  pub entered : Bool
  pub closed : Bool
  pub met : Bool

abbrev pub root : WideState
root = record { chosen = []; next = 0; entered = false; closed = false; met = false }

-- the state of a closed tree
abbrev pub closed : PlainProblem → Bool → WideState
closed p met = record { chosen = []; next = length p.items; entered = false; closed = true; met = met }

abbrev pub left_at : PlainProblem → Bool → Option (List ℕ × ℕ) → WideState
left_at p met None = closed p met
left_at p met (Some r) = record { chosen = r.0; next = r.1 + 1; entered = false; closed = false; met = met }

-- the state after a node that is closed: the node without the last chosen place, or the tree is closed
abbrev pub left : PlainProblem → Bool → List ℕ → WideState
left p met chosen = left_at p met (split_last chosen)

-- where a token leads; only B meets the answer
abbrev pub after : PlainProblem → Option (List ℕ) → WideState → WideToken → WideState
after p a s Enter = record { chosen = s.chosen ++ s.next ∷ []; next = s.next + 1; entered = true; closed = s.closed; met = s.met }
after p a s Pass = record { chosen = s.chosen; next = behind_twins p s.next; entered = false; closed = s.closed; met = s.met }
after p a s Mark = record { chosen = s.chosen; next = s.next; entered = false; closed = s.closed; met = met_at a s.met s.chosen }
after p a s (Close reason) = left p s.met s.chosen

-- a step is allowed where the tree isn't closed and the token is allowed at the node
abbrev pub IsAllowed : PlainProblem → Option (List ℕ) → WideState → WideToken → Type 0
IsAllowed p a s token = (s.closed ≡ false) × IsAllowedAt p a s.entered s.met s.chosen s.next token

abbrev pub after_all : PlainProblem → Option (List ℕ) → WideState → List WideToken → WideState
after_all p a s [] = s
after_all p a s (k ∷ ks) = after_all p a (after p a s k) ks

abbrev pub AreAllowed : PlainProblem → Option (List ℕ) → WideState → List WideToken → Type 0
AreAllowed p a s [] = Unit {0}
AreAllowed p a s (k ∷ ks) = IsAllowed p a s k × AreAllowed p a (after p a s k) ks

-- from the root the steps of the tokens are all allowed, and the last one closes the tree
abbrev pub IsClosedBySteps : PlainProblem → Option (List ℕ) → List WideToken → Bool → Type 0
IsClosedBySteps p a tokens met = AreAllowed p a root tokens × (after_all p a root tokens ≡ closed p met)
