-- How a sweep ends, by its status.
use Rattle.std.specs.Prelude.{ℕ, ◌≡◌, ◌⊎◌, List, ◌++◌, codes}
use Rattle.fund_shelf.specs.Causes.{ShelfView, SinkView, Rose, HasPart}
use Rattle.fund_files.specs.declared.refusal.File.{File}
use Rattle.command_end.specs.Lines.{GotLine, fault_line}
use Rattle.command_end.specs.Names.{Sources}
use Rattle.command_end.specs.declared.status.Status.{Status}
use Rattle.command_end.specs.declared.status.Status.TheVariants as statuses
use Rattle.command_inputs.specs.Cause.{cause_of, status_of_cause}
use Rattle.command_inputs.specs.Inputs.{IsUnread}
use Rattle.command_inputs.specs.Names.{Payment}
use Rattle.command_inputs.specs.Results.{EndsUnread}
use Rattle.command_inputs.specs.Words.{refusal_words}
use Rattle.command_inputs.specs.declared.refusal.Refusal.{Refusal}
use Rattle.command_sweep.specs.Inputs.{AreNotSweep, AreRefusedFor, AreTooHeavy}
use Rattle.command_sweep.specs.Results.{IsNotSwept, IsSwept}
use Rattle.command_sweep.specs.Stops.{not_sweep_words, too_heavy_words}

-- done: after what was in the sink stands the report of a payment
abbrev pub EndsSwept : Type 0 → Type 0 → Sources → Payment → ShelfView → SinkView → SinkView → Type 0
EndsSwept told_files told s p shelf sink sink' = (report : List ℕ) × IsSwept told_files shelf.files s p report × (told → sink'.written ≡ sink.written ++ report)

-- no selection: after what was in the sink stands the report of none
abbrev pub EndsNotSwept : Type 0 → Type 0 → Sources → Payment → ShelfView → SinkView → SinkView → Type 0
EndsNotSwept told_files told s p shelf sink sink' = (report : List ℕ) × IsNotSwept told_files shelf.files s p report × (told → sink'.written ≡ sink.written ++ report)

-- A refusal of this status, whose cause the files come to where they are told, with its line.
abbrev pub EndsRefused : Status → Type 0 → Type 0 → Sources → Payment → ShelfView → SinkView → SinkView → Type 0
EndsRefused status told_files told s p shelf sink sink' =
    (refusal : Refusal) × (status_of_cause (cause_of refusal) ≡ status) × (told_files → AreRefusedFor shelf.files s p (cause_of refusal)) × (told → GotLine (fault_line (refusal_words refusal)) sink sink')

-- a sweep doesn't take the request, with its line
abbrev pub EndsNotSweep : Type 0 → Type 0 → Sources → Payment → ShelfView → SinkView → SinkView → Type 0
EndsNotSweep told_files told s p shelf sink sink' = (told_files → AreNotSweep shelf.files s p) × (told → GotLine (fault_line not_sweep_words) sink sink')

-- the payment is too heavy, with its line
abbrev pub EndsTooHeavy : Type 0 → Type 0 → Sources → Payment → ShelfView → SinkView → SinkView → Type 0
EndsTooHeavy told_files told s p shelf sink sink' = (weight : ℕ) × (told_files → AreTooHeavy shelf.files s p weight) × (told → GotLine (fault_line (too_heavy_words weight)) sink sink')

-- a refusal of the input: as that of a payment, of a request that a sweep doesn't take, or of a payment that is too heavy
abbrev pub EndsInput : Type 0 → Type 0 → Sources → Payment → ShelfView → SinkView → SinkView → Type 0
EndsInput told_files told s p shelf sink sink' =
    EndsRefused statuses.Input told_files told s p shelf sink sink' ⊎ (EndsNotSweep told_files told s p shelf sink sink' ⊎ EndsTooHeavy told_files told s p shelf sink sink')

-- this is a report of what the files come to
abbrev pub IsReport : Type 0 → (List ℕ → List ℕ) → Sources → Payment → List ℕ → Type 0
IsReport told_files files s p report = IsSwept told_files files s p report ⊎ IsNotSwept told_files files s p report

-- Nothing is refused, and the sink failed and has got a part of the report.
abbrev pub EndsUnwritten : Type 0 → Type 0 → Sources → Payment → ShelfView → SinkView → SinkView → Type 0
EndsUnwritten told_files told s p shelf sink sink' =
    (report : List ℕ) × IsReport told_files shelf.files s p report × Rose sink.faults sink'.faults × (told → HasPart sink.written report sink'.written)

-- There was not enough memory, and the line says so; or nothing is refused, and the sink found no memory and has got a part of
-- the report.
abbrev pub EndsWithoutMemory : Type 0 → Type 0 → Sources → Payment → ShelfView → SinkView → SinkView → Type 0
EndsWithoutMemory told_files told s p shelf sink sink' =
    (told → GotLine (fault_line (codes "memory")) sink sink')
    ⊎ ((report : List ℕ) × IsReport told_files shelf.files s p report × Rose sink.refusals sink'.refusals × (told → HasPart sink.written report sink'.written))

-- by the status
abbrev pub Ends : Type 0 → Type 0 → Sources → Payment → ShelfView → ShelfView → SinkView → SinkView → Status → Type 0
Ends told_files told s p shelf shelf' sink sink' statuses.Done = EndsSwept told_files told s p shelf sink sink'
Ends told_files told s p shelf shelf' sink sink' statuses.NoSelection = EndsNotSwept told_files told s p shelf sink sink'
Ends told_files told s p shelf shelf' sink sink' statuses.Unfinished = ⊥
Ends told_files told s p shelf shelf' sink sink' statuses.Usage = ⊥
Ends told_files told s p shelf shelf' sink sink' statuses.Input = EndsInput told_files told s p shelf sink sink'
Ends told_files told s p shelf shelf' sink sink' statuses.Limit = EndsRefused statuses.Limit told_files told s p shelf sink sink'
Ends told_files told s p shelf shelf' sink sink' statuses.ReadFault = EndsUnread told_files told s p shelf shelf' sink sink'
Ends told_files told s p shelf shelf' sink sink' statuses.WriteFault = EndsUnwritten told_files told s p shelf sink sink'
Ends told_files told s p shelf shelf' sink sink' statuses.Memory = EndsWithoutMemory told_files told s p shelf sink sink'
Ends told_files told s p shelf shelf' sink sink' statuses.KeepFault = ⊥
Ends told_files told s p shelf shelf' sink sink' statuses.Saved = ⊥
Ends told_files told s p shelf shelf' sink sink' statuses.CheckRefused = ⊥
Ends told_files told s p shelf shelf' sink sink' statuses.Settle = ⊥

-- ---- where nothing failed

-- no read of a file failed
abbrev pub NoneUnread : Sources → Payment → ShelfView → ShelfView → Type 0
NoneUnread s p shelf shelf' = (file : File) → IsUnread s p file shelf shelf' → ⊥

-- nor did the sink
pub record NoneFailed (s : Sources) (p : Payment) (shelf shelf' : ShelfView) (sink sink' : SinkView) : Type 0 where
  pub reads : NoneUnread s p shelf shelf'
  pub sinks : Rose sink.faults sink'.faults → ⊥
