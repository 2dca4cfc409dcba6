-- A kept job as it is loaded, piece by piece.
use Rattle.std.specs.Prelude.{ℕ, ◌≡◌, ◌<◌, ◌≤◌, ◌+◌, ◌++◌, List, length, Option, None, Some, Result, Err, MatchResult}
use Rattle.closing_log.specs.Exact.{IsFirstFault}
use Rattle.fund_outside.specs.Kept.{KeptJob}
use Rattle.search_keep.specs.SavedText.{IsSavedText, PlainSaved}
use Rattle.kept_job.specs.Jobs.{most_bytes}
use Rattle.kept_job.specs.Refused.{HasNoForm}
use Rattle.kept_job.specs.declared.fault.KeptFault.{KeptFault}
use Rattle.kept_job.specs.declared.fault.KeptFault.TheVariants.{NoJob, Form, JobElse, Spent, Part, LongLog, Parts, Failed, Memory}

-- ---- pieces

-- why bytes are read as no saved position
abbrev pub IsNoText : List ℕ → KeptFault → Type 0
IsNoText bytes (Form place) = IsFirstFault IsSavedText bytes place
IsNoText bytes Memory = Unit {0}
IsNoText bytes _ = ⊥

-- what a saved text that may be missing is read as
abbrev pub IsPositionOf : Option (List ℕ) → Result PlainSaved KeptFault → Type 0
IsPositionOf None read = read ≡ Err NoJob
IsPositionOf (Some bytes) read = MatchResult read (IsSavedText bytes) (IsNoText bytes)

-- why a part isn't put behind those before it, with which it has so many bytes
abbrev pub IsNotPut : ℕ → KeptFault → Type 0
IsNotPut n LongLog = most_bytes < n
IsNotPut n Memory = n ≤ most_bytes
IsNotPut n _ = ⊥

-- what becomes of the joined parts once the part of this number, which may be missing, is put behind them
abbrev pub IsPut : Option (List ℕ) → (number : ℕ) → (old new : List ℕ) → Result (Unit {0}) KeptFault → Type 0
IsPut None number old new put = put ≡ Err (Part number)
IsPut (Some part) number old new put = MatchResult put (λ _. (new ≡ old ++ part) × (length new ≤ most_bytes)) (IsNotPut (length old + length part))

-- ---- a job

-- why no saved position is loaded
abbrev pub IsNotSaved : Option KeptJob → KeptFault → Type 0
IsNotSaved o NoJob = o ≡ None
IsNotSaved o (Form place) = HasNoForm o place
IsNotSaved o Failed = Unit {0}
IsNotSaved o Memory = Unit {0}
IsNotSaved o _ = ⊥

-- why a saved position isn't due
abbrev pub IsNotDue : PlainSaved → List ℕ → KeptFault → Type 0
IsNotDue s now (JobElse kept given) = (kept ≡ s.job) × (given ≡ now) × (s.job ≡ now → ⊥)
IsNotDue s now Spent = (s.job ≡ now) × (10_000_000 ≤ s.tries)
IsNotDue s now _ = ⊥

-- why a position isn't saved with a log of this digest
abbrev pub IsOfOther : PlainSaved → List ℕ → KeptFault → Type 0
IsOfOther s digest (Parts kept given) = (s.log ≡ Some kept) × (given ≡ digest) × (kept ≡ given → ⊥)
IsOfOther s digest _ = ⊥
