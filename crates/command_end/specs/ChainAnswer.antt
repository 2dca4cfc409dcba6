-- How a command is answered whose wallet or blocks stop it, and which files it asked for.
use Rattle.std.specs.Prelude.{ℕ, List, [], ◌∷◌, ◌++◌, codes}
use Rattle.fund_files.specs.declared.refusal.File.{File}
use Rattle.fund_files.specs.declared.refusal.File.TheVariants.{Wallet, Blocks, Request}
use Rattle.command_end.specs.Names.{Sources}
use Rattle.fund_shelf.specs.Causes.{Asks, ShelfView, SinkView}
use Rattle.fund_files.specs.FileStops.{IsUnread}
use Rattle.fund_files.specs.Cause.{cause_of}
use Rattle.fund_files.specs.declared.stop.Stop.{Stop}
use Rattle.fund_files.specs.declared.stop.Stop.TheVariants as stops
use Rattle.command_end.specs.AnswerLines.{IsAnswered}
use Rattle.command_end.specs.Lines.{file_refusal_words, status_of_file}
use Rattle.command_end.specs.declared.status.Status.{Status}
use Rattle.command_end.specs.declared.status.Status.TheVariants as statuses

-- the name of a file that is read; a request isn't, and has none
abbrev pub name_of : Sources → File → List ℕ
name_of s Wallet = s.wallet
name_of s Blocks = s.blocks
name_of s Request = []

-- the names of the files up to this one; a request isn't read
abbrev pub names_to : Sources → File → List (List ℕ)
names_to s Wallet = s.wallet ∷ []
names_to s Blocks = s.wallet ∷ s.blocks ∷ []
names_to s Request = []

-- A file wasn't read, and none was asked for after it.
abbrev pub AsksToUnread : Sources → ShelfView → ShelfView → Type 0
AsksToUnread s shelf shelf' = (file : File) × IsUnread s.wallet s.blocks file shelf shelf' × Asks (names_to s file) shelf.asked shelf'.asked

-- the status of a stop
abbrev pub stop_status : Stop → Status
stop_status (stops.Read file) = statuses.ReadFault
stop_status (stops.Refused refusal) = status_of_file (cause_of refusal)
stop_status stops.Memory = statuses.Memory

-- what the line of a stop says behind the word fault
abbrev pub stop_words : Sources → Stop → List ℕ
stop_words s (stops.Read file) = codes "read " ++ name_of s file
stop_words s (stops.Refused refusal) = file_refusal_words refusal
stop_words s stops.Memory = codes "memory"

-- the answer to a stop: its status, with its line
abbrev pub IsStopped : Type 0 → Sources → Stop → SinkView → SinkView → Status → Type 0
IsStopped told s stop old new result = IsAnswered told (stop_words s stop) (stop_status stop) old new result
