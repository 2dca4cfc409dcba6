-- Closing trees, and the logs that are accepted.
--
-- The guarantee: if a log is accepted with an answer, that answer is the best selection of its problem; if it is
-- accepted without one, no selection is admissible. It holds for any letters, from whatever search or forger, and each
-- walk that is done leaves a log that is accepted. Why: the root stands for all selections. A tree gives each node one
-- of three things: a reason that closes it, which is true of all selections below it; the two nodes with and without
-- the next place, below which together stand the same selections; or the node after a run of twins, whose selections
-- are matched by ones that stand before. So by going down the tree each admissible selection comes to a leaf, whose
-- reason says that the answer is no worse. That the answer itself is admissible and stands at a leaf is asked too, so
-- it can't be a bound that nobody reaches. A reader needs no tree: the tokens are those of a tree exactly where they
-- are allowed steps of which the last closes it.
use Rattle.std.specs.Prelude.{◌≡◌, ℕ, ◌+◌, Bool, true, false, List, [], ◌∷◌, ◌++◌, Option, Some, None}
use Rattle.pick_problem.specs.declared.token.Reason.{Reason}
use Rattle.pick_problem.specs.declared.token.Token.{Token}
use Rattle.pick_problem.specs.declared.token.Token.TheVariants.{Enter, Pass, Close}
use Rattle.pick_problem.specs.Problem.{PlainProblem}
use Rattle.pick_problem.specs.Admissible.{IsAdmissible}
use Rattle.pick_problem.specs.Later.{behind_twins}
use Rattle.pick_problem.specs.Steps.{Closes, IsAllowedAt, met_behind}

-- a node is closed for a reason, or splits into the selections with the next place and those without it, or passes
-- a run of twins of a place that isn't chosen
pub data Tree : Type 0 where
  Leaf : Reason → Tree
  Fork : (chosen without : Tree) → Tree
  Skip : (behind : Tree) → Tree

-- the tokens of a tree: each node, then what is below it
abbrev pub tokens_of : Tree → List Token
tokens_of (Leaf reason) = Close reason ∷ []
tokens_of (Fork chosen without) = Enter ∷ (tokens_of chosen ++ tokens_of without)
tokens_of (Skip behind) = Pass ∷ tokens_of behind

-- whether the answer is met after the tree of a node
abbrev pub met_after : PlainProblem → Option (List ℕ) → Bool → List ℕ → ℕ → Tree → Bool
met_after p a met chosen t (Leaf reason) = met_behind a met chosen reason
met_after p a met chosen t (Fork x y) = met_after p a (met_after p a met (chosen ++ t ∷ []) (t + 1) x) chosen (t + 1) y
met_after p a met chosen t (Skip x) = met_after p a met chosen (behind_twins p t) x

-- a tree closes the node of the chosen places and the next place t
abbrev pub IsTree : PlainProblem → Option (List ℕ) → Bool → List ℕ → ℕ → Tree → Type 0
IsTree p a met chosen t (Leaf reason) = Closes p a met chosen t reason
IsTree p a met chosen t (Fork x y) = IsAllowedAt p a met chosen t Enter × IsTree p a met (chosen ++ t ∷ []) (t + 1) x × IsTree p a (met_after p a met (chosen ++ t ∷ []) (t + 1) x) chosen (t + 1) y
IsTree p a met chosen t (Skip x) = IsAllowedAt p a met chosen t Pass × IsTree p a met chosen (behind_twins p t) x

-- the tokens are those of a tree of the root, after which the answer is met or not
abbrev pub IsRootTree : PlainProblem → Option (List ℕ) → List Token → Bool → Type 0
IsRootTree p a tokens met = (tree : Tree) × (tokens_of tree ≡ tokens) × IsTree p a false [] 0 tree × (met_after p a false [] 0 tree ≡ met)

-- an answer is admissible and met
abbrev pub IsAnswered : PlainProblem → Option (List ℕ) → Bool → Type 0
IsAnswered p None met = Unit {0}
IsAnswered p (Some best) met = IsAdmissible p best × (met ≡ true)

-- a log is accepted: its tokens are the whole tree of the root, and an answer is admissible and met
pub record IsAccepted (p : PlainProblem) (a : Option (List ℕ)) (tokens : List Token) : Type 0 where
  pub met : Bool
  pub tree : IsRootTree p a tokens met
  pub answered : IsAnswered p a met
