-- How a listing ends, by its status.
use Rattle.std.specs.Prelude.{ℕ, ◌≡◌, ◌⊎◌, List, ◌++◌, codes, Result, Ok, Err}
use Rattle.fund_shelf.specs.Causes.{ShelfView, SinkView, Rose, HasPart}
use Rattle.block_feed.specs.Block.{ChainBlock}
use Rattle.wallet_text.specs.PlainWallet.{PlainWallet}
use Rattle.fund_files.specs.Cause.{FileCause, cause_of}
use Rattle.fund_files.specs.Chain.{chain_from}
use Rattle.fund_files.specs.Contents.{HasChain}
use Rattle.fund_files.specs.FileStops.{IsReached, IsUnread}
use Rattle.fund_files.specs.Refusals.{IsChainMeant}
use Rattle.fund_files.specs.declared.refusal.File.{File}
use Rattle.fund_files.specs.declared.refusal.FileRefusal.{FileRefusal}
use Rattle.command_end.specs.Lines.{GotLine, fault_line, file_refusal_words, status_of_file}
use Rattle.command_end.specs.Names.{Sources}
use Rattle.command_end.specs.declared.status.Status.{Status}
use Rattle.command_end.specs.declared.status.Status.TheVariants as statuses
use Rattle.command_coins.specs.Outcome.{outcome_of, listing_in}
use Rattle.command_end.specs.ChainAnswer.{name_of}

-- the status of what the files come to, where nothing fails
abbrev pub status_of : Result (List ℕ) FileCause → Status
status_of (Err cause) = status_of_file cause
status_of (Ok listing) = statuses.Done

-- The files come to a listing.
abbrev pub IsReported : Result (List ℕ) FileCause → Type 0
IsReported (Err cause) = ⊥
IsReported (Ok listing) = Unit {0}

-- A wallet and blocks of which this is the listing. Where the files are told, they hold this wallet and these blocks.
pub record IsListed (told_files : Type 0) (files : List ℕ → List ℕ) (s : Sources) (listing : List ℕ) : Type 0 where
  pub wallet : PlainWallet
  pub blocks : List ChainBlock
  pub chain : told_files → HasChain (files s.wallet) (files s.blocks) wallet blocks
  pub lists : listing ≡ listing_in (chain_from wallet blocks)
  pub comes_to : told_files → outcome_of files s ≡ Ok listing

-- listed: behind what was in the sink stands the listing
abbrev pub EndsListed : Type 0 → Type 0 → Sources → ShelfView → SinkView → SinkView → Type 0
EndsListed told_files told s shelf sink sink' = (listing : List ℕ) × IsListed told_files shelf.files s listing × (told → sink'.written ≡ sink.written ++ listing)

-- The files come to a refusal of this cause, and it means what it says.
abbrev pub AreRefusedFor : (List ℕ → List ℕ) → Sources → FileCause → Type 0
AreRefusedFor files s cause = (outcome_of files s ≡ Err cause) × IsChainMeant (files s.wallet) (files s.blocks) cause

-- A refusal of this status, whose cause the files come to where they are told, with its line.
abbrev pub EndsRefused : Status → Type 0 → Type 0 → Sources → ShelfView → SinkView → SinkView → Type 0
EndsRefused status told_files told s shelf sink sink' =
    (refusal : FileRefusal) × (status_of_file (cause_of refusal) ≡ status) × (told_files → AreRefusedFor shelf.files s (cause_of refusal)) × (told → GotLine (fault_line (file_refusal_words refusal)) sink sink')

-- A file wasn't read, the one before it being in order, and the line names it.
abbrev pub EndsUnread : Type 0 → Type 0 → Sources → ShelfView → ShelfView → SinkView → SinkView → Type 0
EndsUnread told_files told s shelf shelf' sink sink' =
    (file : File) × IsUnread s.wallet s.blocks file shelf shelf' × (told_files → IsReached (shelf.files s.wallet) file)
    × (told → GotLine (fault_line (codes "read " ++ name_of s file)) sink sink')

-- The sink has got a part of a listing of a wallet and blocks. Where the files are told, they hold these and come to it.
abbrev pub HasDue : Type 0 → Type 0 → Sources → ShelfView → SinkView → SinkView → Type 0
HasDue told_files told s shelf sink sink' = (listing : List ℕ) × IsListed told_files shelf.files s listing × (told → HasPart sink.written listing sink'.written)

-- Nothing is refused, and the sink failed and has got a part of what is due.
abbrev pub EndsUnwritten : Type 0 → Type 0 → Sources → ShelfView → SinkView → SinkView → Type 0
EndsUnwritten told_files told s shelf sink sink' = (told_files → IsReported (outcome_of shelf.files s)) × Rose sink.faults sink'.faults × HasDue told_files told s shelf sink sink'

-- There was not enough memory, and the line says so; or the sink found none, and has got a part of what is due.
abbrev pub EndsWithoutMemory : Type 0 → Type 0 → Sources → ShelfView → SinkView → SinkView → Type 0
EndsWithoutMemory told_files told s shelf sink sink' =
    (told → GotLine (fault_line (codes "memory")) sink sink')
    ⊎ (Rose sink.refusals sink'.refusals × (told_files → IsReported (outcome_of shelf.files s)) × HasDue told_files told s shelf sink sink')

-- by the status
abbrev pub Ends : Type 0 → Type 0 → Sources → ShelfView → ShelfView → SinkView → SinkView → Status → Type 0
Ends told_files told s shelf shelf' sink sink' statuses.Done = EndsListed told_files told s shelf sink sink'
Ends told_files told s shelf shelf' sink sink' statuses.NoSelection = ⊥
Ends told_files told s shelf shelf' sink sink' statuses.Unfinished = ⊥
Ends told_files told s shelf shelf' sink sink' statuses.Usage = ⊥
Ends told_files told s shelf shelf' sink sink' statuses.Input = EndsRefused statuses.Input told_files told s shelf sink sink'
Ends told_files told s shelf shelf' sink sink' statuses.Limit = EndsRefused statuses.Limit told_files told s shelf sink sink'
Ends told_files told s shelf shelf' sink sink' statuses.ReadFault = EndsUnread told_files told s shelf shelf' sink sink'
Ends told_files told s shelf shelf' sink sink' statuses.WriteFault = EndsUnwritten told_files told s shelf sink sink'
Ends told_files told s shelf shelf' sink sink' statuses.KeepFault = ⊥
Ends told_files told s shelf shelf' sink sink' statuses.Memory = EndsWithoutMemory told_files told s shelf sink sink'
Ends told_files told s shelf shelf' sink sink' statuses.Saved = ⊥
Ends told_files told s shelf shelf' sink sink' statuses.CheckRefused = ⊥
Ends told_files told s shelf shelf' sink sink' statuses.Settle = ⊥
