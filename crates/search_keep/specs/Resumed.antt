-- The search that goes on from a saved position.
use Rattle.std.specs.Prelude.{ℕ, ◌≡◌, ◌≤◌, ◌<◌, false, List}
use Rattle.pick_problem.specs.declared.position.Position.{Position}
use Rattle.pick_problem.specs.declared.position.RestoreFault.{RestoreFault}
use Rattle.pick_problem.specs.declared.position.RestoreFault.TheVariants as restored
use Rattle.pick_problem.specs.Letters.{letters_of}
use Rattle.pick_problem.specs.Problem.{PlainProblem}
use Rattle.pick_problem.specs.Walk.{Walk, upward}
use Rattle.walk_engine.specs.Search.{IsWellFormed, open_at}
use Rattle.search_keep.specs.declared.fault.SavedFault.{SavedFault}
use Rattle.search_keep.specs.declared.fault.SavedFault.TheVariants as faults
use Rattle.search_keep.specs.SavedText.{PlainSaved}

-- the fault of a search that isn't restored
abbrev pub restore_fault : RestoreFault → SavedFault
restore_fault restored.IllFormed = faults.IllFormed
restore_fault restored.Memory = faults.Memory

-- what is saved, as an open position of a search after these letters, with as many tries as they tell of
abbrev pub open_position : PlainSaved → List ℕ → Position
open_position s letters = open_at s.chosen s.next s.best letters

-- what is saved, with these letters, tells where a walk stands that isn't done
pub record IsSavedWalk (s : PlainSaved) (letters : List ℕ) (w : Walk) : Type 0 where
  pub goes_on : w.done ≡ false
  pub chosen : s.chosen ≡ upward w.stack
  pub next : s.next ≡ w.next
  pub best : s.best ≡ w.best
  pub letters_are : letters ≡ letters_of w.tokens

-- it was saved of this job, which has tries left: a job has 10,000,000
pub record MayGoOn (s : PlainSaved) (now : List ℕ) : Type 0 where
  pub job : s.job ≡ now
  pub tries : s.tries < 10_000_000

-- a search of the problem may stand where it says, after these letters
abbrev pub CanStand : PlainSaved → PlainProblem → List ℕ → Type 0
CanStand s p letters = IsWellFormed p (open_position s letters) letters

-- why a search isn't resumed: the first of these reasons in this order, or out of memory where there is none of them
abbrev pub IsRefusal : PlainSaved → List ℕ → PlainProblem → List ℕ → SavedFault → Type 0
IsRefusal s now p letters (faults.JobElse kept given) = (kept ≡ s.job) × (given ≡ now) × (s.job ≡ now → ⊥)
IsRefusal s now p letters faults.Spent = (s.job ≡ now) × (10_000_000 ≤ s.tries)
IsRefusal s now p letters faults.IllFormed = MayGoOn s now × (CanStand s p letters → ⊥)
IsRefusal s now p letters faults.Memory = MayGoOn s now × CanStand s p letters
IsRefusal s now p letters (faults.Form place) = ⊥
