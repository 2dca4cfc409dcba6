-- How a desk ends before the first line of its script is done, by the status.
use Rattle.std.specs.Prelude.{ℕ, ◌≡◌, ◌⊎◌, List, ◌++◌, codes}
use Rattle.fund_shelf.specs.Causes.{Asks, ShelfView, SinkView, Rose}
use Rattle.fund_files.specs.Cause.{cause_of}
use Rattle.fund_files.specs.FileStops.{IsReached, IsUnread}
use Rattle.fund_files.specs.Refusals.{IsChainCause}
use Rattle.fund_files.specs.declared.refusal.File.{File}
use Rattle.fund_files.specs.declared.refusal.FileRefusal.{FileRefusal}
use Rattle.command_end.specs.ChainAnswer.{name_of, names_to}
use Rattle.command_end.specs.Lines.{GotLine, fault_line, file_refusal_words, status_of_file}
use Rattle.command_end.specs.Names.{Sources}
use Rattle.command_end.specs.declared.status.Status.{Status}
use Rattle.command_end.specs.declared.status.Status.TheVariants as statuses
use Rattle.command_desk.specs.Asked.{first_names}
use Rattle.command_desk.specs.Starts.{HasWalletAndBlocks, IsScriptLong}

-- The wallet or the blocks are refused for a cause of this status, which the files come to where they are told, with its line.
abbrev pub EndsRefused : Status → Type 0 → Type 0 → Sources → ShelfView → SinkView → SinkView → Type 0
EndsRefused status told_files told s shelf sink sink' =
    (refusal : FileRefusal) × (status_of_file (cause_of refusal) ≡ status) × (told_files → IsChainCause (shelf.files s.wallet) (shelf.files s.blocks) (cause_of refusal))
    × (told → GotLine (fault_line (file_refusal_words refusal)) sink sink')

-- the script is too long, the wallet and the blocks being in order, with its line
abbrev pub EndsScriptLong : Type 0 → Type 0 → Sources → (script : List ℕ) → ShelfView → SinkView → SinkView → Type 0
EndsScriptLong told_files told s script shelf sink sink' = (told_files → IsScriptLong shelf.files s script) × (told → GotLine (fault_line (codes "limit script")) sink sink')

-- the wallet or the blocks weren't read, the file before being in order, and the line names the file; none behind was asked for
abbrev pub EndsChainUnread : Type 0 → Type 0 → Sources → ShelfView → ShelfView → SinkView → SinkView → Type 0
EndsChainUnread told_files told s shelf shelf' sink sink' =
    (file : File) × IsUnread s.wallet s.blocks file shelf shelf' × (told_files → IsReached (shelf.files s.wallet) file)
    × (told_files → Asks (names_to s file) shelf.asked shelf'.asked) × (told → GotLine (fault_line (codes "read " ++ name_of s file)) sink sink')

-- the script wasn't read, the wallet and the blocks being in order, and the line names it; none behind was asked for
abbrev pub EndsScriptUnread : Type 0 → Type 0 → Sources → (script : List ℕ) → ShelfView → ShelfView → SinkView → SinkView → Type 0
EndsScriptUnread told_files told s script shelf shelf' sink sink' =
    Rose (shelf.reads script) (shelf'.reads script) × (told_files → HasWalletAndBlocks shelf.files s)
    × (told_files → Asks (first_names s script) shelf.asked shelf'.asked) × (told → GotLine (fault_line (codes "read " ++ script)) sink sink')

-- by the status; where there was not enough memory, the line says so
abbrev pub EndsBefore : Type 0 → Type 0 → Sources → (script : List ℕ) → ShelfView → ShelfView → SinkView → SinkView → Status → Type 0
EndsBefore told_files told s script shelf shelf' sink sink' statuses.Input = EndsRefused statuses.Input told_files told s shelf sink sink'
EndsBefore told_files told s script shelf shelf' sink sink' statuses.Limit =
    EndsRefused statuses.Limit told_files told s shelf sink sink' ⊎ EndsScriptLong told_files told s script shelf sink sink'
EndsBefore told_files told s script shelf shelf' sink sink' statuses.ReadFault =
    EndsChainUnread told_files told s shelf shelf' sink sink' ⊎ EndsScriptUnread told_files told s script shelf shelf' sink sink'
EndsBefore told_files told s script shelf shelf' sink sink' statuses.Memory = told → GotLine (fault_line (codes "memory")) sink sink'
EndsBefore told_files told s script shelf shelf' sink sink' statuses.Done = ⊥
EndsBefore told_files told s script shelf shelf' sink sink' statuses.NoSelection = ⊥
EndsBefore told_files told s script shelf shelf' sink sink' statuses.Unfinished = ⊥
EndsBefore told_files told s script shelf shelf' sink sink' statuses.Usage = ⊥
EndsBefore told_files told s script shelf shelf' sink sink' statuses.WriteFault = ⊥
EndsBefore told_files told s script shelf shelf' sink sink' statuses.KeepFault = ⊥
EndsBefore told_files told s script shelf shelf' sink sink' statuses.Saved = ⊥
EndsBefore told_files told s script shelf shelf' sink sink' statuses.CheckRefused = ⊥
EndsBefore told_files told s script shelf shelf' sink sink' statuses.Settle = ⊥
