-- How the command ends, by its status.
use Rattle.std.specs.Prelude.{ℕ, ◌≡◌, ◌⊎◌, List, ◌++◌, codes}
use Rattle.fund_shelf.specs.Causes.{ShelfView, SinkView, Rose, HasPart}
use Rattle.command_end.specs.Lines.{GotLine, fault_line}
use Rattle.command_end.specs.declared.status.Status.{Status}
use Rattle.command_end.specs.declared.status.Status.TheVariants as statuses
use Rattle.command_settle.specs.Files.{IsReached, IsUnread}
use Rattle.command_settle.specs.Names.{Names, name_of}
use Rattle.command_settle.specs.Outcome.{ComesTo, IsASettlement, IsSettled, Outcome, Refused, status_of, status_of_cause}
use Rattle.command_settle.specs.Stops.{cause_of}
use Rattle.command_settle.specs.Words.{refusal_words}
use Rattle.command_settle.specs.declared.stop.Refusal.{Refusal}
use Rattle.command_settle.specs.declared.stop.SettleFile.{SettleFile}

-- ---- by the status

-- the payment is settled, and this is printed whole
abbrev pub EndsSettled : Type 0 → Type 0 → Names → ShelfView → SinkView → SinkView → Type 0
EndsSettled told_files told n shelf sink sink' = (text : List ℕ) × (told_files → IsSettled shelf.files n text) × (told → sink'.written ≡ sink.written ++ text)

-- the files are refused with this status, and the line says why
abbrev pub EndsRefused : Status → Type 0 → Type 0 → Names → ShelfView → SinkView → SinkView → Type 0
EndsRefused status told_files told n shelf sink sink' =
    (refusal : Refusal) × (status_of_cause (cause_of refusal) ≡ status) × (told_files → ComesTo shelf.files n (Refused (cause_of refusal))) × (told → GotLine (fault_line (refusal_words refusal)) sink sink')

-- a file wasn't read, those before it being in order, and the line names it
abbrev pub EndsUnread : Type 0 → Type 0 → Names → ShelfView → ShelfView → SinkView → SinkView → Type 0
EndsUnread told_files told n shelf shelf' sink sink' =
    (file : SettleFile) × IsUnread n file shelf shelf' × (told_files → IsReached shelf.files n file) × (told → GotLine (fault_line (codes "read " ++ name_of n file)) sink sink')

-- the payment is settled, and the sink failed and has got a part of what is due
abbrev pub EndsUnwritten : Type 0 → Type 0 → Names → ShelfView → SinkView → SinkView → Type 0
EndsUnwritten told_files told n shelf sink sink' =
    (text : List ℕ) × (told_files → IsSettled shelf.files n text) × Rose sink.faults sink'.faults × (told → HasPart sink.written text sink'.written)

-- There was not enough memory, and the line says so; or the payment is settled, and the sink found none and has got a part of
-- what is due.
abbrev pub EndsWithoutMemory : Type 0 → Type 0 → Names → ShelfView → SinkView → SinkView → Type 0
EndsWithoutMemory told_files told n shelf sink sink' =
    (told → GotLine (fault_line (codes "memory")) sink sink')
    ⊎ ((text : List ℕ) × (told_files → IsSettled shelf.files n text) × Rose sink.refusals sink'.refusals × (told → HasPart sink.written text sink'.written))

abbrev pub Ends : Type 0 → Type 0 → Names → ShelfView → ShelfView → SinkView → SinkView → Status → Type 0
Ends told_files told n shelf shelf' sink sink' statuses.Done = EndsSettled told_files told n shelf sink sink'
Ends told_files told n shelf shelf' sink sink' statuses.NoSelection = ⊥
Ends told_files told n shelf shelf' sink sink' statuses.Unfinished = ⊥
Ends told_files told n shelf shelf' sink sink' statuses.Usage = ⊥
Ends told_files told n shelf shelf' sink sink' statuses.Input = EndsRefused statuses.Input told_files told n shelf sink sink'
Ends told_files told n shelf shelf' sink sink' statuses.Limit = EndsRefused statuses.Limit told_files told n shelf sink sink'
Ends told_files told n shelf shelf' sink sink' statuses.ReadFault = EndsUnread told_files told n shelf shelf' sink sink'
Ends told_files told n shelf shelf' sink sink' statuses.WriteFault = EndsUnwritten told_files told n shelf sink sink'
Ends told_files told n shelf shelf' sink sink' statuses.KeepFault = ⊥
Ends told_files told n shelf shelf' sink sink' statuses.Memory = EndsWithoutMemory told_files told n shelf sink sink'
Ends told_files told n shelf shelf' sink sink' statuses.Saved = ⊥
Ends told_files told n shelf shelf' sink sink' statuses.CheckRefused = ⊥
Ends told_files told n shelf shelf' sink sink' statuses.Settle = EndsRefused statuses.Settle told_files told n shelf sink sink'

-- ---- where nothing failed

-- no read of a file failed
abbrev pub NoneUnread : Names → ShelfView → ShelfView → Type 0
NoneUnread n shelf shelf' = (file : SettleFile) → IsUnread n file shelf shelf' → ⊥

-- nor did the sink fail
pub record NoneFailed (n : Names) (shelf shelf' : ShelfView) (sink sink' : SinkView) : Type 0 where
  pub reads : NoneUnread n shelf shelf'
  pub sinks : Rose sink.faults sink'.faults → ⊥

-- ---- the status that is due

-- What the files come to is told, or that there was not enough memory.
pub record IsDueStatus (told : Type 0) (n : Names) (shelf shelf' : ShelfView) (sink sink' : SinkView) (status : Status) : Type 0 where
  -- Where the files are refused and were read, the status is that of the refusal, even if the sink fails.
  pub refused : told → NoneUnread n shelf shelf' → (o : Outcome) → ComesTo shelf.files n o → (IsASettlement o → ⊥) → (status ≡ status_of o) ⊎ (status ≡ statuses.Memory)
  -- Where no count rose, the status is that of what the files come to, or out of memory.
  pub complete : told → NoneFailed n shelf shelf' sink sink' → (o : Outcome) → ComesTo shelf.files n o → (status ≡ status_of o) ⊎ (status ≡ statuses.Memory)
