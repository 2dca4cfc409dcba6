-- How a run is held: the place of the step at which it is, and its walk, once that has begun.
use Rattle.std.specs.Prelude.{ℕ, ◌≡◌, ◌≤◌, false, List, [], ◌∷◌, ◌++◌, length, drop, Option, Some, None, if◌then◌else◌}
use Rattle.pick_problem.specs.Walk as plain
use Rattle.pick_problem.specs.Walk.{after_tries, upward}
use Rattle.pick_problem.specs.declared.position.Position.{Position}
use Rattle.walk_engine.specs.Search.{PlainSearch}
use Rattle.walk_engine.specs.Search.{begun as begun_search}
use Rattle.search_run.specs.Run.{Past, Stand, begun, begun_first, ends, made, passed}
use Rattle.search_run.specs.Found.{found_of}
use Rattle.search_run.specs.Runs.{PlainRun}
use Rattle.search_run.specs.Stands.{IsStand}
use Rattle.search_run.specs.Step.{AreSteps, PlainStep, is_drawn}
use Rattle.search_run.specs.declared.walking.Turn.{Turn}

-- the walk of the first step that is left; one that hasn't begun stands where it begins
abbrev pub walk_in : List ℕ → List PlainStep → Option PlainSearch → plain.Walk
walk_in seed left None = begun_first seed left
walk_in seed left (Some w) = w.walk

-- the walk of a step
abbrev pub walk_of : List ℕ → PlainStep → Option PlainSearch → plain.Walk
walk_of seed x None = begun seed x
walk_of seed x (Some w) = w.walk

abbrev pub before_in : Option PlainSearch → List ℕ
before_in None = []
before_in (Some w) = w.before

abbrev pub stand_in : List ℕ → List PlainStep → Option PlainSearch → Past → Stand
stand_in seed left walk past = record { left = left; walk = walk_in seed left walk; before = before_in walk; past = past }

abbrev pub run_in : List ℕ → List PlainStep → ℕ → Option PlainSearch → Past → PlainRun
run_in seed steps at walk past = record { seed = seed; steps = steps; stand = stand_in seed (drop at steps) walk past }

-- a walk is that of the first step, which is a search
abbrev pub IsOf : List PlainStep → Option PlainSearch → Type 0
IsOf left None = Unit {0}
IsOf [] (Some w) = ⊥
IsOf (x ∷ rest) (Some w) = (w.problem ≡ x.problem) × (is_drawn x.stage ≡ false)

-- ---- pieces

-- the search of a step, which begins where it has not begun
abbrev pub search_in : PlainStep → Option PlainSearch → PlainSearch
search_in x None = begun_search x.problem
search_in x (Some w) = w

-- so many tries of a search were granted, and some made
pub record Tries (old new : PlainSearch) (n : ℕ) (t : Turn) : Type 0 where
  pub problem : new.problem ≡ old.problem
  pub before : new.before ≡ old.before
  pub walk : new.walk ≡ after_tries old.problem old.walk n
  pub count : t.made ≡ made old.walk new.walk
  pub over : t.done ≡ new.walk.done

-- the same of the walk of a step, which may have begun or not
pub record HasWalked (x : PlainStep) (old new : Option PlainSearch) (n : ℕ) (t : Turn) : Type 0 where
  pub before : before_in new ≡ before_in old
  pub walk : (seed : List ℕ) → walk_of seed x new ≡ after_tries x.problem (walk_of seed x old) n
  pub count : (seed : List ℕ) → t.made ≡ made (walk_of seed x old) (walk_of seed x new)
  pub over : (seed : List ℕ) → t.done ≡ (walk_of seed x new).done

-- no try was made
pub record IsSame (x : PlainStep) (old new : Option PlainSearch) : Type 0 where
  pub before : before_in new ≡ before_in old
  pub walk : (seed : List ℕ) → walk_of seed x new ≡ walk_of seed x old

-- a step is left for the next one, with what it has come to
pub record HasLeft (seed : List ℕ) (steps : List PlainStep) (at : ℕ) (walk : Option PlainSearch) (old : Past) (next : ℕ) (new : Past) : Type 0 where
  pub within : next ≤ length steps
  pub left : (x : PlainStep) (rest : List PlainStep) → drop at steps ≡ x ∷ rest → drop next steps ≡ (if ends x (old.found ++ found_of x (walk_of seed x walk).best) then [] else rest)
  pub is : (x : PlainStep) (rest : List PlainStep) → drop at steps ≡ x ∷ rest → new ≡ passed x (before_in walk) (walk_of seed x walk) (walk_of seed x walk) old

-- where a walk stands, but for its tries
pub record IsPlaceOf (q : Position) (w : plain.Walk) : Type 0 where
  pub chosen : q.chosen ≡ upward w.stack
  pub next : q.next ≡ w.next
  pub best : q.best ≡ w.best

-- ---- the whole

-- what each run keeps
pub record IsRun (seed : List ℕ) (steps : List PlainStep) (at : ℕ) (walk : Option PlainSearch) (past : Past) : Type 0 where
  pub within : at ≤ length steps
  pub of : IsOf (drop at steps) walk
  pub steps_are : AreSteps steps
  pub stands : IsStand seed steps (stand_in seed (drop at steps) walk past)
