-- What a wide search claims by its outcome. This speaks of pools, problems, selections, and accepted logs.
use Rattle.std.specs.Prelude.{ℕ, ◌≡◌, ◌+◌, ◌-◌, ◌++◌, ◌⊎◌, true, false, List, [], ◌∷◌, All, sum_by, None, Some}
use Rattle.std.specs.List.{AllByRecursion, AllZip}
use Rattle.closing_log.specs.declared.log.Stage.TheVariants as stage
use Rattle.closing_log.specs.declared.mark.Mark.{Mark}
use Rattle.closing_log.specs.declared.mark.Mark.TheVariants.{Exhausted, Partial, Drawn, Given}
use Rattle.fund_plan.specs.Chosen.{coins_at, row_of}
use Rattle.fund_plan.specs.Selection.{PlainFunded}
use Rattle.fund_plan.specs.Steps.{problem_at, steps_of}
use Rattle.fund_steps.specs.Basis.{basis_of}
use Rattle.fund_steps.specs.Plan.{PlainPlan}
use Rattle.fund_steps.specs.Reached.{NothingDoes}
use Rattle.fund_steps.specs.Searches.{rows_in}
use Rattle.pick_problem.specs.Digest.{digest_of}
use Rattle.search_run.specs.Step.{PlainStep}
use Rattle.wide_check.specs.Wide.{IsWide, IsWideBest}
use Rattle.wide_check.specs.WideLetters.{IsWideAcceptedText}
use Rattle.wide_search.specs.WideWalk.{Walk, walk}
use Rattle.wide_plan.specs.Rows.{PlainWideSection}

-- ---- the log

-- A section of a row has its number and the digest of its problem. Its answer is the best of the problem, or none where there
-- is none, and its letters are accepted with that answer.
pub record IsSectionOf (x : PlainStep) (s : PlainWideSection) : Type 0 where
  pub row : s.row ≡ x.row
  pub digest : s.digest ≡ digest_of x.problem
  pub best : IsWideBest x.problem s.answer
  pub accepted : IsWideAcceptedText x.problem s.answer s.letters

-- there is one section for each of these rows, in their order
abbrev pub AreSectionsOf : List PlainStep → List PlainWideSection → Type 0
AreSectionsOf steps sections = AllZip IsSectionOf steps sections

-- ---- the rows

-- no row has a selection
abbrev pub AreEmpty : List PlainStep → Type 0
AreEmpty steps = AllByRecursion (λ (x : PlainStep). IsWideBest x.problem None) steps

-- the tries that the walks of finished rows take, each at most n
abbrev pub spent_on : ℕ → List PlainStep → ℕ
spent_on n steps = sum_by (λ (x : PlainStep). (walk x.problem n).tries) steps

-- The tries are used up in a row: those before it are finished and have no selection, all tries are made, and the next step
-- of the row's walk is a try.
pub record IsUsedUp (steps : List PlainStep) (n : ℕ) (closed : List PlainWideSection) (tries : ℕ) : Type 0 where
  pub front : List PlainStep
  pub step : PlainStep
  pub rest : List PlainStep
  pub parts : steps ≡ front ++ step ∷ rest
  pub empty : AreEmpty front
  pub over : AllByRecursion (λ (x : PlainStep). (walk x.problem n).done ≡ true) front
  pub sections : AreSectionsOf front closed
  pub made : tries ≡ n
  pub spent : spent_on n front + (walk step.problem (n - spent_on n front)).tries ≡ n
  pub going : (walk step.problem (n - spent_on n front)).done ≡ false

-- where the walk of the open row stands
abbrev pub open_walk : (steps : List PlainStep) (n : ℕ) (closed : List PlainWideSection) (tries : ℕ) → IsUsedUp steps n closed tries → Walk
open_walk steps n closed tries u = walk u.step.problem (n - spent_on n u.front)

-- ---- by the outcome

-- The coins are those of the groups at the places of the best selection of the named row's problem, whose items need not each
-- be needed: no other wastes less, and of those that waste as much it is the first in lexical order. No row before has a
-- selection. The log has a section for each row up to and with it, each accepted with its answer.
pub record IsProvedLeast (p : PlainPlan) (f : PlainFunded) (closed : List PlainWideSection) : Type 0 where
  pub places : List ℕ
  pub best : IsWideBest (problem_at p (row_of p f.row) stage.Changeless) (Some places)
  pub coins : f.coins ≡ coins_at p (row_of p f.row) places
  pub front : List PlainStep
  pub step : PlainStep
  pub rest : List PlainStep
  pub parts : steps_of p ≡ front ++ step ∷ rest
  pub row : step.row ≡ f.row
  pub problem : step.problem ≡ problem_at p (row_of p f.row) stage.Changeless
  pub empty : AreEmpty front
  pub sections : AreSectionsOf (front ++ step ∷ []) closed

-- The request takes what there is, and the tries are used up: the coins are those of the best that the walk of the open row has
-- met, a selection of its problem.
pub record IsTakenShort (p : PlainPlan) (f : PlainFunded) (closed : List PlainWideSection) (tries : ℕ) : Type 0 where
  pub asked : p.request.take ≡ true
  pub used_up : IsUsedUp (steps_of p) p.request.tries closed tries
  pub row : used_up.step.row ≡ f.row
  pub problem : used_up.step.problem ≡ problem_at p (row_of p f.row) stage.Changeless
  pub places : List ℕ
  pub met : (open_walk (steps_of p) p.request.tries closed tries used_up).best ≡ Some places
  pub selection : IsWide (problem_at p (row_of p f.row) stage.Changeless) places
  pub coins : f.coins ≡ coins_at p (row_of p f.row) places

-- what the mark of a payment claims beside that it pays
abbrev pub ClaimsBy : PlainPlan → PlainFunded → List PlainWideSection → (tries : ℕ) → Mark → Type 0
ClaimsBy p f closed tries Exhausted = IsProvedLeast p f closed
ClaimsBy p f closed tries Partial = IsTakenShort p f closed tries
ClaimsBy p f closed tries Drawn = ⊥
ClaimsBy p f closed tries Given = ⊥

-- it is found by the wide search, without change
pub record Claims (p : PlainPlan) (f : PlainFunded) (closed : List PlainWideSection) (tries : ℕ) : Type 0 where
  pub stage : f.stage ≡ stage.Wide
  pub change : f.change ≡ None
  pub claim : ClaimsBy p f closed tries f.mark

-- No row has a selection, and the log has each row, accepted with no answer. So no choice from any row's pool brings an amount
-- from the target to what the least change takes, within the weight that is left without change.
pub record IsProvedNone (p : PlainPlan) (closed : List PlainWideSection) : Type 0 where
  pub empty : AreEmpty (steps_of p)
  pub sections : AreSectionsOf (steps_of p) closed
  pub nothing : All (NothingDoes (basis_of p)) (rows_in (basis_of p))

-- The tries are used up in the row of this number, and nothing is taken: the request doesn't ask for that, or nothing was met.
pub record IsLeftOpen (p : PlainPlan) (number : ℕ) (closed : List PlainWideSection) (tries : ℕ) : Type 0 where
  pub used_up : IsUsedUp (steps_of p) p.request.tries closed tries
  pub row : used_up.step.row ≡ number
  pub untaken : (p.request.take ≡ false) ⊎ ((open_walk (steps_of p) p.request.tries closed tries used_up).best ≡ None)
