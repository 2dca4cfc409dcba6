-- How a payment ends whose recipients bear the fee, by its status.
use Rattle.std.specs.Prelude.{ℕ, ◌≡◌, ◌⊎◌, List, ◌++◌, codes, Option, Some, None}
use Rattle.fund_shelf.specs.Causes.{ShelfView, SinkView, Rose, HasPart}
use Rattle.fund_files.specs.declared.refusal.File.{File}
use Rattle.command_end.specs.Lines.{GotLine, fault_line}
use Rattle.command_end.specs.Names.{Sources}
use Rattle.command_end.specs.declared.status.Status.{Status}
use Rattle.command_end.specs.declared.status.Status.TheVariants as statuses
use Rattle.command_inputs.specs.Cause.{cause_of, status_of_cause}
use Rattle.command_inputs.specs.Inputs.{IsUnread}
use Rattle.command_inputs.specs.Names.{Payment}
use Rattle.command_inputs.specs.Results.{EndsUnread, IsLogged, IsLogLost}
use Rattle.command_inputs.specs.Words.{refusal_words}
use Rattle.command_inputs.specs.declared.refusal.Refusal.{Refusal}
use Rattle.command_share.specs.Inputs.{AreNotShare, AreRefusedFor, AreShareDust}
use Rattle.command_share.specs.Results.{IsNotShared, IsShared, IsUnfinished}
use Rattle.command_share.specs.Stops.{not_share_words, share_dust_words}

-- done: the log is written, and after what was in the sink stands the report of a payment
abbrev pub EndsShared : Type 0 → Type 0 → Sources → Payment → ShelfView → ShelfView → SinkView → SinkView → Type 0
EndsShared told_files told s p shelf shelf' sink sink' =
    (report : List ℕ) × (log : List ℕ) × IsShared told_files shelf.files s p report log × (told_files → shelf'.files p.log ≡ log) × (told → sink'.written ≡ sink.written ++ report)

-- no selection: the log is written, and after what was in the sink stands the report of none
abbrev pub EndsNotShared : Type 0 → Type 0 → Sources → Payment → ShelfView → ShelfView → SinkView → SinkView → Type 0
EndsNotShared told_files told s p shelf shelf' sink sink' =
    (report : List ℕ) × (log : List ℕ) × IsNotShared told_files shelf.files s p report log × (told_files → shelf'.files p.log ≡ log) × (told → sink'.written ≡ sink.written ++ report)

-- unfinished: no file is written, and after what was in the sink stands the report of the open row
abbrev pub EndsUnfinished : Type 0 → Type 0 → Sources → Payment → ShelfView → ShelfView → SinkView → SinkView → Type 0
EndsUnfinished told_files told s p shelf shelf' sink sink' =
    (report : List ℕ) × IsUnfinished told_files shelf.files s p report × (told_files → shelf'.files ≡ shelf.files) × (told → sink'.written ≡ sink.written ++ report)

-- A refusal of this status, whose cause the files come to where they are told, with its line.
abbrev pub EndsRefused : Status → Type 0 → Type 0 → Sources → Payment → ShelfView → SinkView → SinkView → Type 0
EndsRefused status told_files told s p shelf sink sink' =
    (refusal : Refusal) × (status_of_cause (cause_of refusal) ≡ status) × (told_files → AreRefusedFor shelf.files s p (cause_of refusal)) × (told → GotLine (fault_line (refusal_words refusal)) sink sink')

-- the request isn't taken, with its line
abbrev pub EndsNotShare : Type 0 → Type 0 → Sources → Payment → ShelfView → SinkView → SinkView → Type 0
EndsNotShare told_files told s p shelf sink sink' = (told_files → AreNotShare shelf.files s p) × (told → GotLine (fault_line not_share_words) sink sink')

-- a recipient can't bear its share, with its line
abbrev pub EndsShareDust : Type 0 → Type 0 → Sources → Payment → ShelfView → SinkView → SinkView → Type 0
EndsShareDust told_files told s p shelf sink sink' = (index : ℕ) × (told_files → AreShareDust shelf.files s p index) × (told → GotLine (fault_line (share_dust_words index)) sink sink')

-- a refusal of the input: as that of a payment, of a request that isn't taken, or of a recipient that can't bear its share
abbrev pub EndsInput : Type 0 → Type 0 → Sources → Payment → ShelfView → SinkView → SinkView → Type 0
EndsInput told_files told s p shelf sink sink' =
    EndsRefused statuses.Input told_files told s p shelf sink sink' ⊎ (EndsNotShare told_files told s p shelf sink sink' ⊎ EndsShareDust told_files told s p shelf sink sink')

-- this is a report, and the log that is written before it, if one is
abbrev pub IsReport : Type 0 → (List ℕ → List ℕ) → Sources → Payment → List ℕ → Option (List ℕ) → Type 0
IsReport told_files files s p report (Some log) = IsShared told_files files s p report log ⊎ IsNotShared told_files files s p report log
IsReport told_files files s p report None = IsUnfinished told_files files s p report

-- Nothing is refused. The log wasn't written, and the line names it; or it was, or none is due, and the sink failed and has
-- got a part of the report.
abbrev pub EndsUnwritten : Type 0 → Type 0 → Sources → Payment → ShelfView → ShelfView → SinkView → SinkView → Type 0
EndsUnwritten told_files told s p shelf shelf' sink sink' =
    (report : List ℕ) × (log : Option (List ℕ)) × IsReport told_files shelf.files s p report log
    × ((IsLogLost p log shelf shelf' × (told → GotLine (fault_line (codes "write " ++ p.log)) sink sink'))
    ⊎ (Rose sink.faults sink'.faults × (told_files → IsLogged p log shelf shelf') × (told → HasPart sink.written report sink'.written)))

-- There was not enough memory, and the line says so, and the files are as before; or the log was written, or none is due, and
-- the sink found no memory and has got a part of the report.
abbrev pub EndsWithoutMemory : Type 0 → Type 0 → Sources → Payment → ShelfView → ShelfView → SinkView → SinkView → Type 0
EndsWithoutMemory told_files told s p shelf shelf' sink sink' =
    ((told → GotLine (fault_line (codes "memory")) sink sink') × (told_files → shelf'.files ≡ shelf.files))
    ⊎ ((report : List ℕ) × (log : Option (List ℕ)) × IsReport told_files shelf.files s p report log
    × Rose sink.refusals sink'.refusals × (told_files → IsLogged p log shelf shelf') × (told → HasPart sink.written report sink'.written))

-- by the status
abbrev pub Ends : Type 0 → Type 0 → Sources → Payment → ShelfView → ShelfView → SinkView → SinkView → Status → Type 0
Ends told_files told s p shelf shelf' sink sink' statuses.Done = EndsShared told_files told s p shelf shelf' sink sink'
Ends told_files told s p shelf shelf' sink sink' statuses.NoSelection = EndsNotShared told_files told s p shelf shelf' sink sink'
Ends told_files told s p shelf shelf' sink sink' statuses.Unfinished = EndsUnfinished told_files told s p shelf shelf' sink sink'
Ends told_files told s p shelf shelf' sink sink' statuses.Usage = ⊥
Ends told_files told s p shelf shelf' sink sink' statuses.Input = EndsInput told_files told s p shelf sink sink'
Ends told_files told s p shelf shelf' sink sink' statuses.Limit = EndsRefused statuses.Limit told_files told s p shelf sink sink'
Ends told_files told s p shelf shelf' sink sink' statuses.ReadFault = EndsUnread told_files told s p shelf shelf' sink sink'
Ends told_files told s p shelf shelf' sink sink' statuses.WriteFault = EndsUnwritten told_files told s p shelf shelf' sink sink'
Ends told_files told s p shelf shelf' sink sink' statuses.Memory = EndsWithoutMemory told_files told s p shelf shelf' sink sink'
Ends told_files told s p shelf shelf' sink sink' statuses.KeepFault = ⊥
Ends told_files told s p shelf shelf' sink sink' statuses.Saved = ⊥
Ends told_files told s p shelf shelf' sink sink' statuses.CheckRefused = ⊥
Ends told_files told s p shelf shelf' sink sink' statuses.Settle = ⊥

-- ---- where nothing failed

-- no read of a file failed
abbrev pub NoneUnread : Sources → Payment → ShelfView → ShelfView → Type 0
NoneUnread s p shelf shelf' = (file : File) → IsUnread s p file shelf shelf' → ⊥

-- nor did a write of the log, nor the sink
pub record NoneFailed (s : Sources) (p : Payment) (shelf shelf' : ShelfView) (sink sink' : SinkView) : Type 0 where
  pub reads : NoneUnread s p shelf shelf'
  pub log : Rose (shelf.writes p.log) (shelf'.writes p.log) → ⊥
  pub sinks : Rose sink.faults sink'.faults → ⊥
