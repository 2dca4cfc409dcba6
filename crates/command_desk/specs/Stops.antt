-- Why the reading stops before the first line is done, and how that is answered.
use Rattle.std.specs.Prelude.{ℕ, ◌<◌, List, ◌++◌, codes, length}
use Rattle.fund_shelf.specs.Causes.{Asks, ShelfView, SinkView, Rose}
use Rattle.fund_shelf.specs.declared.pieces.ReadError.{ReadError}
use Rattle.fund_shelf.specs.declared.pieces.ReadError.TheVariants as reads
use Rattle.fund_files.specs.FileStops.{StopsChain}
use Rattle.fund_files.specs.declared.stop.Stop as files
use Rattle.fund_files.specs.declared.stop.Stop.TheVariants as chains
use Rattle.command_end.specs.ChainAnswer as listings
use Rattle.command_end.specs.ChainAnswer.{names_to}
use Rattle.command_end.specs.AnswerLines.{IsAnswered}
use Rattle.command_end.specs.Names.{Sources}
use Rattle.command_end.specs.declared.status.Status.{Status}
use Rattle.command_end.specs.declared.status.Status.TheVariants as statuses
use Rattle.command_desk.specs.Asked.{first_names}
use Rattle.command_desk.specs.Starts.{HasWalletAndBlocks, IsScriptLong}
use Rattle.command_desk.specs.declared.stop.Stop.{Stop}
use Rattle.command_desk.specs.declared.stop.Stop.TheVariants as stops

-- the stop of a script that wasn't read whole
abbrev pub read_stop_of : ReadError → Stop
read_stop_of reads.Failed = stops.Unread
read_stop_of reads.TooLong = stops.TooLong
read_stop_of reads.Memory = stops.Memory

-- a script of this name wasn't read whole
abbrev pub StopsReading : Type 0 → (script : List ℕ) → ShelfView → ShelfView → Stop → Type 0
StopsReading told script old new (stops.Chain stop) = ⊥
StopsReading told script old new stops.Unread = Rose (old.reads script) (new.reads script)
StopsReading told script old new stops.TooLong = told → 16777216 < length (old.files script)
StopsReading told script old new stops.Memory = Unit {0}

-- of the wallet and the blocks, no file behind one that wasn't read was asked for
abbrev pub AsksTo : Sources → ShelfView → ShelfView → files.Stop → Type 0
AsksTo s old new (chains.Read file) = Asks (names_to s file) old.asked new.asked
AsksTo s old new stop = Unit {0}

-- The wallet or the blocks stop it, as they stop a listing; or, these being in order, a read of the script failed, or it is too
-- long. No file behind one that wasn't read was asked for.
abbrev pub StopsFor : Type 0 → Sources → (script : List ℕ) → ShelfView → ShelfView → Stop → Type 0
StopsFor told s script old new (stops.Chain stop) = StopsChain told s.wallet s.blocks old new stop × (told → AsksTo s old new stop)
StopsFor told s script old new stops.Unread = Rose (old.reads script) (new.reads script) × (told → HasWalletAndBlocks old.files s) × (told → Asks (first_names s script) old.asked new.asked)
StopsFor told s script old new stops.TooLong = told → IsScriptLong old.files s script
StopsFor told s script old new stops.Memory = Unit {0}

-- the status of a stop
abbrev pub stop_status : Stop → Status
stop_status (stops.Chain stop) = listings.stop_status stop
stop_status stops.Unread = statuses.ReadFault
stop_status stops.TooLong = statuses.Limit
stop_status stops.Memory = statuses.Memory

-- what the line of a stop says behind the word fault
abbrev pub stop_words : Sources → (script : List ℕ) → Stop → List ℕ
stop_words s script (stops.Chain stop) = listings.stop_words s stop
stop_words s script stops.Unread = codes "read " ++ script
stop_words s script stops.TooLong = codes "limit script"
stop_words s script stops.Memory = codes "memory"

-- the answer to a stop: its status, with its line
abbrev pub IsStopped : Type 0 → Sources → (script : List ℕ) → Stop → SinkView → SinkView → Status → Type 0
IsStopped told s script stop old new result = IsAnswered told (stop_words s script stop) (stop_status stop) old new result
