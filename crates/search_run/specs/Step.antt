-- What a run does, one step after another.
use Rattle.std.specs.Prelude.{ℕ, ◌≡◌, ◌≤◌, Bool, true, false, List, length}
use Rattle.std.specs.List.{AllByRecursion}
use Rattle.closing_log.specs.declared.log.Stage.{Stage}
use Rattle.closing_log.specs.declared.log.Stage.TheVariants.{Presets, Changeless, LeanBig, Draw, LeanSmall, Wide}
use Rattle.pick_problem.specs.Problem.{PlainProblem, IsProblem}
use Rattle.pick_problem.specs.declared.item.Kind.TheVariants as kind

-- A search or a draw: the row of the ladder and the stage, the problem, what making and spending a change costs where its
-- results have one, how many coins stand at each place of the pool, and whether it is the last one of its column. The
-- results of a column are compared with each other.
pub record PlainStep : Type 0 where
  pub row : ℕ
  pub stage : Stage
  pub problem : PlainProblem
  pub ending : ℕ
  pub sizes : List ℕ
  pub last : Bool

-- it is a draw, and no search
abbrev pub is_drawn : Stage → Bool
is_drawn Presets = false
is_drawn Changeless = false
is_drawn LeanBig = false
is_drawn Draw = true
is_drawn LeanSmall = false
is_drawn Wide = false

-- a changeless problem has the stage of that name, and the others have lean ones; the presets alone and the wide search
-- are no steps
abbrev pub FitsStage : Stage → PlainProblem → Type 0
FitsStage Presets p = ⊥
FitsStage Changeless p = p.kind ≡ kind.Changeless
FitsStage LeanBig p = p.kind ≡ kind.Lean
FitsStage Draw p = p.kind ≡ kind.Lean
FitsStage LeanSmall p = p.kind ≡ kind.Lean
FitsStage Wide p = ⊥

-- what each step keeps; a group has at most 100 coins
pub record IsStep (x : PlainStep) : Type 0 where
  pub problem : IsProblem x.problem
  pub stage : FitsStage x.stage x.problem
  pub ending : x.ending ≤ 1_000_000_000_000_000_000
  pub sizes : length x.sizes ≡ length x.problem.items
  pub few : AllByRecursion (λ n. n ≤ 100) x.sizes

abbrev pub AreSteps : List PlainStep → Type 0
AreSteps steps = AllByRecursion IsStep steps
