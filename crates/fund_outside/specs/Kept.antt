-- What a keeper tells of itself: the jobs that it keeps, and how often it failed.
use Rattle.std.specs.Prelude.{◌≡◌, ◌≢◌, ℕ, List, [], ◌∷◌, ◌++◌, Option, Some, None, Vec, option_map, slice_get, take}
use Rattle.std.specs.declared.alloc.Global.{Global}

-- a kept job: a saved text, and parts in order
pub record KeptJob : Type 0 where
  pub saved : List ℕ
  pub parts : List (List ℕ)

-- jobs by name, and how often a call has failed
pub record KeeperView : Type 0 where
  pub jobs : List ℕ → Option KeptJob
  pub faults : ℕ

-- the parts of a job; a job that isn't kept has none
abbrev pub parts_in : Option KeptJob → List (List ℕ)
parts_in None = []
parts_in (Some job) = job.parts

-- the saved text of a job, where it is kept
abbrev pub saved_in : Option KeptJob → Option (List ℕ)
saved_in job = option_map (λ kept. kept.saved) job

-- the part of that number, counted from 0, where there is one
abbrev pub part_in : Option KeptJob → ℕ → Option (List ℕ)
part_in job number = slice_get (parts_in job) number

-- a job once it is saved: its first parts, one more behind them, and the saved text
abbrev pub after_save : Option KeptJob → ℕ → List ℕ → List ℕ → Option KeptJob
after_save job first part saved = Some (record { saved = saved; parts = take first (parts_in job) ++ part ∷ [] })

-- each job of another name is as before
abbrev pub SameForOthers : List ℕ → (List ℕ → Option KeptJob) → (List ℕ → Option KeptJob) → Type 0
SameForOthers name before now = (other : List ℕ) → other ≢ name → now other ≡ before other

-- the bytes of an answer
abbrev pub told_bytes : Option (Vec ℕ Global) → Option (List ℕ)
told_bytes found = option_map (λ bytes. bytes.items) found
