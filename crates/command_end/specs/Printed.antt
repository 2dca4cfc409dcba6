-- How the writing of the log and the printing of the report end.
use Rattle.std.specs.Prelude.{ℕ, ◌≡◌, ◌⊎◌, List, ◌++◌, codes}
use Rattle.fund_shelf.specs.Causes.{ShelfView, SinkView, Rose, HasPart}
use Rattle.command_end.specs.declared.status.Status.{Status}
use Rattle.command_end.specs.declared.status.Status.TheVariants as statuses
use Rattle.command_end.specs.Lines.{GotLine, fault_line}

-- a status of a report that is printed whole
abbrev pub IsEnd : Status → Type 0
IsEnd status = (status ≡ statuses.Done) ⊎ (status ≡ statuses.NoSelection)

-- a status that tells that a report, a listing, a summary or all replies are printed whole
abbrev pub TellsWhole : Status → Type 0
TellsWhole statuses.Done = Unit {0}
TellsWhole statuses.NoSelection = Unit {0}
TellsWhole statuses.Unfinished = Unit {0}
TellsWhole statuses.Usage = ⊥
TellsWhole statuses.Input = ⊥
TellsWhole statuses.ReadFault = ⊥
TellsWhole statuses.WriteFault = ⊥
TellsWhole statuses.KeepFault = ⊥
TellsWhole statuses.Memory = ⊥
TellsWhole statuses.Saved = ⊥
TellsWhole statuses.Limit = ⊥
TellsWhole statuses.CheckRefused = ⊥
TellsWhole statuses.Settle = ⊥

-- Between two moments of a sink no put failed and none found no memory.
pub record TookAll (before now : SinkView) : Type 0 where
  pub faults : now.faults ≡ before.faults
  pub refusals : now.refusals ≡ before.refusals

-- the report is put whole, or the sink failed or found no memory and has got a part of it
abbrev pub IsPut : Type 0 → List ℕ → Status → SinkView → SinkView → Status → Type 0
IsPut told report status old new result =
    ((result ≡ status) × (told → new.written ≡ old.written ++ report))
    ⊎ (((result ≡ statuses.WriteFault) × Rose old.faults new.faults × (told → HasPart old.written report new.written))
    ⊎ ((result ≡ statuses.Memory) × Rose old.refusals new.refusals × (told → HasPart old.written report new.written)))

-- the log wasn't written, or this text is the log and the sink failed
abbrev pub IsUnwritten : Type 0 → Type 0 → (log text report : List ℕ) → ShelfView → ShelfView → SinkView → SinkView → Type 0
IsUnwritten told_files told log text report shelf shelf' sink sink' =
    (Rose (shelf.writes log) (shelf'.writes log) × (told → GotLine (fault_line (codes "write " ++ log)) sink sink'))
    ⊎ (Rose sink.faults sink'.faults × (told_files → shelf'.files log ≡ text) × (told → HasPart sink.written report sink'.written))

-- there was no memory for the log, or the log was written and the sink found no memory
abbrev pub IsWithoutMemory : Type 0 → Type 0 → (log text report : List ℕ) → ShelfView → ShelfView → SinkView → SinkView → Type 0
IsWithoutMemory told_files told log text report shelf shelf' sink sink' =
    ((told → GotLine (fault_line (codes "memory")) sink sink') × (told_files → shelf'.files ≡ shelf.files))
    ⊎ (Rose sink.refusals sink'.refusals × (told_files → shelf'.files log ≡ text) × (told → HasPart sink.written report sink'.written))
