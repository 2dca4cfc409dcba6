-- What is kept of a run, as the code goes on from it.
use Rattle.walk_engine.specs.Search.{PlainSearch}
use Rattle.std.specs.Prelude.{ℕ, ◌≡◌, ◌≤◌, List, ◌∷◌, length, drop}
use Rattle.closing_log.specs.Log.{PlainLog, PlainSection}
use Rattle.pick_problem.specs.Problem.{PlainProblem}
use Rattle.pick_problem.specs.Walk.{IsPosition}
use Rattle.search_run.specs.Along.{ComesTo}
use Rattle.search_run.specs.Judged.{IsFirstNot}
use Rattle.search_run.specs.Kept.{Along, CanGoOn, IsDueAt, IsFitAt, PlainSaved, comes_to, first_search, kept_walk, tail_letters, to_search}
use Rattle.search_run.specs.Run.{Past}
use Rattle.search_run.specs.Step.{PlainStep}
use Rattle.search_run.specs.declared.next_search.NextSearch.{NextSearch}
use Rattle.search_run.specs.declared.fault.RestoreRefused.{RestoreRefused}
use Rattle.search_run.specs.declared.fault.RestoreRefused.TheVariants as refused
use Rattle.search_run.specs.declared.restoring.Restored.{Restored}

-- each section is that of the search to which the run comes, and after them all it comes to this place
pub record HasFollowed (seed : List ℕ) (steps : List PlainStep) (closed : List PlainSection) (c : NextSearch) : Type 0 where
  pub due : Along IsDueAt seed (first_search seed steps) closed
  pub comes : ComesTo steps c (comes_to seed (first_search seed steps) closed)

-- the first section that isn't
abbrev pub IsNotFollowed : List ℕ → List PlainStep → List PlainSection → RestoreRefused → Type 0
IsNotFollowed seed steps closed (refused.Section i) = IsFirstNot IsDueAt seed (first_search seed steps) closed i
IsNotFollowed seed steps closed refused.IllFormed = ⊥
IsNotFollowed seed steps closed (refused.Answer i) = ⊥
IsNotFollowed seed steps closed refused.Memory = Unit {0}

-- the walk at a saved position, at which one may stand
pub record IsWalkKept (p : PlainProblem) (k : PlainSaved) (letters : List ℕ) (w : PlainSearch) : Type 0 where
  pub problem : w.problem ≡ p
  pub walk : w.walk ≡ kept_walk k
  pub before : w.before ≡ letters
  pub position : IsPosition p (kept_walk k)

abbrev pub IsNoWalk : PlainProblem → PlainSaved → RestoreRefused → Type 0
IsNoWalk p k (refused.Section i) = ⊥
IsNoWalk p k refused.IllFormed = ¬ IsPosition p (kept_walk k)
IsNoWalk p k (refused.Answer i) = ⊥
IsNoWalk p k refused.Memory = Unit {0}

-- past the draws from one place to another, with what they find
pub record HasDrawn (seed : List ℕ) (steps : List PlainStep) (from at : ℕ) (old new : Past) : Type 0 where
  pub within : at ≤ length steps
  pub comes : to_search seed (drop from steps) old.found ≡ record { left = drop at steps; found = new.found }
  pub closed : new.closed ≡ old.closed
  pub tries : new.tries ≡ old.tries

-- what a run has done that made these searches; each answer is admissible
pub record IsReplayed (seed : List ℕ) (steps : List PlainStep) (closed : List PlainSection) (tries : ℕ) (past : Past) : Type 0 where
  pub is : past ≡ record { found = (comes_to seed (first_search seed steps) closed).found; closed = closed; tries = tries }
  pub fit : Along IsFitAt seed (first_search seed steps) closed

-- the first answer that isn't
abbrev pub IsUnfit : List ℕ → List PlainStep → List PlainSection → RestoreRefused → Type 0
IsUnfit seed steps closed (refused.Section i) = ⊥
IsUnfit seed steps closed refused.IllFormed = ⊥
IsUnfit seed steps closed (refused.Answer i) = IsFirstNot IsFitAt seed (first_search seed steps) closed i
IsUnfit seed steps closed refused.Memory = Unit {0}

-- what a run has that goes on from what is kept
pub record IsRestored (seed : List ℕ) (steps : List PlainStep) (k : PlainSaved) (log : PlainLog) (r : Restored) : Type 0 where
  pub can : CanGoOn seed steps k log
  pub within : r.at ≤ length steps
  pub left : drop r.at steps ≡ (comes_to seed (first_search seed steps) log.closed).left
  pub problem : (x : PlainStep) (rest : List PlainStep) → drop r.at steps ≡ x ∷ rest → r.walk.problem ≡ x.problem
  pub walk : r.walk.walk ≡ kept_walk k
  pub before : r.walk.before ≡ tail_letters log.tail
  pub past : r.past ≡ record { found = (comes_to seed (first_search seed steps) log.closed).found; closed = log.closed; tries = k.tries }
