-- Wide trees, and the logs that are accepted.
--
-- The guarantee: if a log is accepted with an answer, that answer is the best of all selections that may hold unneeded
-- items; if it is accepted without one, there is no selection. It holds for any letters, from whatever search or
-- forger. The root stands for all selections, and a tree gives each node a reason that closes it, the two nodes with
-- and without the next place, the node after a run of twins, or B, which decides the chosen places and leaves the rest
-- of the node open. A reader needs no tree: the tokens are those of a tree exactly where they are allowed steps of
-- which the last closes it.
use Rattle.std.specs.Prelude.{◌≡◌, ℕ, ◌+◌, Bool, true, false, List, [], ◌∷◌, ◌++◌, Option, Some, None}
use Rattle.pick_problem.specs.Later.{behind_twins}
use Rattle.pick_problem.specs.Problem.{PlainProblem}
use Rattle.pick_problem.specs.Steps.{met_at}
use Rattle.wide_check.specs.declared.token.WideReason.{WideReason}
use Rattle.wide_check.specs.declared.token.WideToken.{WideToken}
use Rattle.wide_check.specs.declared.token.WideToken.TheVariants.{Enter, Pass, Mark, Close}
use Rattle.wide_check.specs.Wide.{IsWide}
use Rattle.wide_check.specs.WideSteps.{IsAllowedAt}

-- a node is closed for a reason, or splits into the lists with the next place and those without it, or passes a run of
-- twins of a place that isn't chosen, or is marked, which decides its chosen places
pub data Tree : Type 0 where
  Leaf : WideReason → Tree
  Fork : (chosen without : Tree) → Tree
  Skip : (behind : Tree) → Tree
  Marked : (same : Tree) → Tree

-- the tokens of a tree: each node, then what is below it
abbrev pub tokens_of : Tree → List WideToken
tokens_of (Leaf reason) = Close reason ∷ []
tokens_of (Fork chosen without) = Enter ∷ (tokens_of chosen ++ tokens_of without)
tokens_of (Skip behind) = Pass ∷ tokens_of behind
tokens_of (Marked same) = Mark ∷ tokens_of same

-- whether the answer is met after the tree of a node
abbrev pub met_after : PlainProblem → Option (List ℕ) → Bool → List ℕ → ℕ → Tree → Bool
met_after p a met chosen t (Leaf reason) = met
met_after p a met chosen t (Fork x y) = met_after p a (met_after p a met (chosen ++ t ∷ []) (t + 1) x) chosen (t + 1) y
met_after p a met chosen t (Skip x) = met_after p a met chosen (behind_twins p t) x
met_after p a met chosen t (Marked x) = met_after p a (met_at a met chosen) chosen t x

-- a tree closes the node of the chosen places and the next place t, which was just entered or not
abbrev pub IsTree : PlainProblem → Option (List ℕ) → Bool → Bool → List ℕ → ℕ → Tree → Type 0
IsTree p a entered met chosen t (Leaf reason) = IsAllowedAt p a entered met chosen t (Close reason)
IsTree p a entered met chosen t (Fork x y) = IsAllowedAt p a entered met chosen t Enter × IsTree p a true met (chosen ++ t ∷ []) (t + 1) x × IsTree p a false (met_after p a met (chosen ++ t ∷ []) (t + 1) x) chosen (t + 1) y
IsTree p a entered met chosen t (Skip x) = IsAllowedAt p a entered met chosen t Pass × IsTree p a false met chosen (behind_twins p t) x
IsTree p a entered met chosen t (Marked x) = IsAllowedAt p a entered met chosen t Mark × IsTree p a false (met_at a met chosen) chosen t x

-- the tokens are those of a tree of the root, after which the answer is met or not
abbrev pub IsRootTree : PlainProblem → Option (List ℕ) → List WideToken → Bool → Type 0
IsRootTree p a tokens met = (tree : Tree) × (tokens_of tree ≡ tokens) × IsTree p a false false [] 0 tree × (met_after p a false [] 0 tree ≡ met)

-- an answer is a selection and met
abbrev pub IsAnswered : PlainProblem → Option (List ℕ) → Bool → Type 0
IsAnswered p None met = Unit {0}
IsAnswered p (Some best) met = IsWide p best × (met ≡ true)

-- a log is accepted: its tokens are the whole tree of the root, and an answer is a selection and met
pub record IsWideAccepted (p : PlainProblem) (a : Option (List ℕ)) (tokens : List WideToken) : Type 0 where
  pub met : Bool
  pub tree : IsRootTree p a tokens met
  pub answered : IsAnswered p a met
