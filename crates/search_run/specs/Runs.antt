-- A run, as contracts see it.
use Rattle.std.specs.Prelude.{ℕ, ◌≡◌, List, Option, Some, None}
use Rattle.search_keep.specs.SavedText as text
use Rattle.search_run.specs.Kept.{PlainSaved}
use Rattle.search_run.specs.Leads.{Leads}
use Rattle.search_run.specs.Run.{Stand}
use Rattle.search_run.specs.Step.{PlainStep}

-- the seed of its draws, all its steps, and where it stands
pub record PlainRun : Type 0 where
  pub seed : List ℕ
  pub steps : List PlainStep
  pub stand : Stand

-- so many tries lead from the one run to the other, which has the same seed and the same steps
pub record RunLeads (a : PlainRun) (k : ℕ) (b : PlainRun) : Type 0 where
  pub same_seed : b.seed ≡ a.seed
  pub same_steps : b.steps ≡ a.steps
  pub leads : Leads a.seed a.stand k b.stand

-- what is saved of a search, with a job, a number of parts and a digest of the log, if it is kept
abbrev pub saved_with : List ℕ → ℕ → Option (List ℕ) → Option PlainSaved → Option text.PlainSaved
saved_with job parts log None = None
saved_with job parts log (Some k) = Some (record { job = job; tries = k.tries; row = k.row; stage = k.stage; chosen = k.chosen; next = k.next; best = k.best; parts = parts; log = log })
