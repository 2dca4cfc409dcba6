-- How the command ends, by its status.
use Rattle.std.specs.Prelude.{ℕ, ◌≡◌, ◌⊎◌, List, ◌++◌, codes}
use Rattle.block_feed.specs.Block.{ChainBlock}
use Rattle.coin_book.specs.History.{History}
use Rattle.fund_shelf.specs.Causes.{ShelfView, SinkView, Rose, HasPart}
use Rattle.fund_files.specs.Cause.{cause_of}
use Rattle.fund_files.specs.Chain.{history_of}
use Rattle.fund_files.specs.Contents.{HasChain}
use Rattle.fund_files.specs.FileStops as chains
use Rattle.fund_files.specs.declared.refusal.File.{File}
use Rattle.fund_files.specs.declared.refusal.FileRefusal.{FileRefusal}
use Rattle.wallet_text.specs.PlainWallet.{PlainWallet}
use Rattle.command_end.specs.ChainAnswer.{name_of}
use Rattle.command_end.specs.Lines.{GotLine, fault_line, file_refusal_words, status_of_file}
use Rattle.command_end.specs.Names.{Sources}
use Rattle.command_end.specs.declared.status.Status.{Status}
use Rattle.command_end.specs.declared.status.Status.TheVariants as statuses
use Rattle.command_complete.specs.Outcome.{BadPsbt, ComesTo, Completed, HasBook, IsACompletion, Outcome, Refused, TooLong, status_of}
use Rattle.command_complete.specs.Made.{IsCompletedFile}
use Rattle.command_complete.specs.Words.{refusal_words}
use Rattle.command_complete.specs.declared.stop.Refusal.{Refusal}

-- ---- a PSBT made whole

-- The bytes of a file, which are the one text of a PSBT, that PSBT made whole from the book of a wallet and of blocks behind
-- it, and what is printed of that. Where the files are told, they hold all of this.
pub record IsPrinted (told_files : Type 0) (files : List ℕ → List ℕ) (s : Sources) (name text : List ℕ) : Type 0 where
  pub wallet : PlainWallet
  pub blocks : List ChainBlock
  pub file : List ℕ
  pub made : IsCompletedFile (history_of wallet blocks) file text
  pub chain : told_files → HasChain (files s.wallet) (files s.blocks) wallet blocks
  pub read : told_files → file ≡ files name
  pub comes_to : told_files → ComesTo files s name (Completed made.after)

-- ---- by the status

-- behind what was in the sink stands the PSBT made whole
abbrev pub EndsCompleted : Type 0 → Type 0 → Sources → (name : List ℕ) → ShelfView → SinkView → SinkView → Type 0
EndsCompleted told_files told s name shelf sink sink' = (text : List ℕ) × IsPrinted told_files shelf.files s name text × (told → sink'.written ≡ sink.written ++ text)

-- a refusal of the wallet file or the block file of this status, to whose cause the files come where they are told, with its line
abbrev pub EndsRefused : Status → Type 0 → Type 0 → Sources → (name : List ℕ) → ShelfView → SinkView → SinkView → Type 0
EndsRefused status told_files told s name shelf sink sink' =
    (refusal : FileRefusal) × (status_of_file (cause_of refusal) ≡ status) × (told_files → ComesTo shelf.files s name (Refused (cause_of refusal))) × (told → GotLine (fault_line (file_refusal_words refusal)) sink sink')

-- a refusal of the PSBT file, likewise
abbrev pub EndsBadPsbt : Type 0 → Type 0 → Sources → (name : List ℕ) → ShelfView → SinkView → SinkView → Type 0
EndsBadPsbt told_files told s name shelf sink sink' = (refusal : Refusal) × (told_files → ComesTo shelf.files s name (BadPsbt refusal)) × (told → GotLine (fault_line (refusal_words refusal)) sink sink')

-- a PSBT file that is too long, likewise
abbrev pub EndsTooLong : Type 0 → Type 0 → Sources → (name : List ℕ) → ShelfView → SinkView → SinkView → Type 0
EndsTooLong told_files told s name shelf sink sink' = (told_files → ComesTo shelf.files s name TooLong) × (told → GotLine (fault_line (codes "limit psbt")) sink sink')

-- a file wasn't read, those before it being in order, and the line names it
abbrev pub EndsUnread : Type 0 → Type 0 → Sources → (name : List ℕ) → ShelfView → ShelfView → SinkView → SinkView → Type 0
EndsUnread told_files told s name shelf shelf' sink sink' =
    ((file : File) × chains.IsUnread s.wallet s.blocks file shelf shelf' × (told_files → chains.IsReached (shelf.files s.wallet) file) × (told → GotLine (fault_line (codes "read " ++ name_of s file)) sink sink'))
    ⊎ (Rose (shelf.reads name) (shelf'.reads name) × (told_files → (h : History) × HasBook shelf.files s h) × (told → GotLine (fault_line (codes "read " ++ name)) sink sink'))

-- the PSBT is made whole, and the sink failed and has got a part of what is due
abbrev pub EndsUnwritten : Type 0 → Type 0 → Sources → (name : List ℕ) → ShelfView → SinkView → SinkView → Type 0
EndsUnwritten told_files told s name shelf sink sink' =
    (text : List ℕ) × IsPrinted told_files shelf.files s name text × Rose sink.faults sink'.faults × (told → HasPart sink.written text sink'.written)

-- There was not enough memory, and the line says so; or the PSBT is made whole, and the sink found none and has got a part of
-- what is due.
abbrev pub EndsWithoutMemory : Type 0 → Type 0 → Sources → (name : List ℕ) → ShelfView → SinkView → SinkView → Type 0
EndsWithoutMemory told_files told s name shelf sink sink' =
    (told → GotLine (fault_line (codes "memory")) sink sink')
    ⊎ ((text : List ℕ) × IsPrinted told_files shelf.files s name text × Rose sink.refusals sink'.refusals × (told → HasPart sink.written text sink'.written))

abbrev pub Ends : Type 0 → Type 0 → Sources → (name : List ℕ) → ShelfView → ShelfView → SinkView → SinkView → Status → Type 0
Ends told_files told s name shelf shelf' sink sink' statuses.Done = EndsCompleted told_files told s name shelf sink sink'
Ends told_files told s name shelf shelf' sink sink' statuses.NoSelection = ⊥
Ends told_files told s name shelf shelf' sink sink' statuses.Unfinished = ⊥
Ends told_files told s name shelf shelf' sink sink' statuses.Usage = ⊥
Ends told_files told s name shelf shelf' sink sink' statuses.Input = EndsRefused statuses.Input told_files told s name shelf sink sink' ⊎ EndsBadPsbt told_files told s name shelf sink sink'
Ends told_files told s name shelf shelf' sink sink' statuses.Limit = EndsRefused statuses.Limit told_files told s name shelf sink sink' ⊎ EndsTooLong told_files told s name shelf sink sink'
Ends told_files told s name shelf shelf' sink sink' statuses.ReadFault = EndsUnread told_files told s name shelf shelf' sink sink'
Ends told_files told s name shelf shelf' sink sink' statuses.WriteFault = EndsUnwritten told_files told s name shelf sink sink'
Ends told_files told s name shelf shelf' sink sink' statuses.KeepFault = ⊥
Ends told_files told s name shelf shelf' sink sink' statuses.Memory = EndsWithoutMemory told_files told s name shelf sink sink'
Ends told_files told s name shelf shelf' sink sink' statuses.Saved = ⊥
Ends told_files told s name shelf shelf' sink sink' statuses.CheckRefused = ⊥
Ends told_files told s name shelf shelf' sink sink' statuses.Settle = ⊥

-- ---- where nothing failed

-- no read of a file failed
pub record NoneUnread (s : Sources) (name : List ℕ) (shelf shelf' : ShelfView) : Type 0 where
  pub chain : (file : File) → chains.IsUnread s.wallet s.blocks file shelf shelf' → ⊥
  pub psbt : Rose (shelf.reads name) (shelf'.reads name) → ⊥

-- nor did the sink fail
pub record NoneFailed (s : Sources) (name : List ℕ) (shelf shelf' : ShelfView) (sink sink' : SinkView) : Type 0 where
  pub reads : NoneUnread s name shelf shelf'
  pub sinks : Rose sink.faults sink'.faults → ⊥

-- ---- the status that is due

-- What the files come to is told, or that there was not enough memory.
pub record IsDueStatus (told : Type 0) (s : Sources) (name : List ℕ) (shelf shelf' : ShelfView) (sink sink' : SinkView) (status : Status) : Type 0 where
  -- Where the PSBT isn't made whole and the files were read, the status is that of the refusal, even if the sink fails.
  pub refused : told → NoneUnread s name shelf shelf' → (o : Outcome) → ComesTo shelf.files s name o → (IsACompletion o → ⊥) → (status ≡ status_of o) ⊎ (status ≡ statuses.Memory)
  -- Where no count rose, the status is that of what the files come to, or out of memory.
  pub complete : told → NoneFailed s name shelf shelf' sink sink' → (o : Outcome) → ComesTo shelf.files s name o → (status ≡ status_of o) ⊎ (status ≡ statuses.Memory)
