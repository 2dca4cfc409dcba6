-- How a desk ends, by its status.
use Rattle.std.specs.Prelude.{ℕ, ◌≡◌, ◌⊎◌, List, Contains, Some}
use Rattle.fund_shelf.specs.Causes.{ShelfView, SinkView, Rose}
use Rattle.fund_files.specs.FileStops.{IsUnread}
use Rattle.fund_files.specs.declared.refusal.File.{File}
use Rattle.command_end.specs.Names.{Sources}
use Rattle.command_end.specs.declared.status.Status.{Status}
use Rattle.desk_machine.specs.State.{PlainDesk}
use Rattle.command_desk.specs.Line.{Wanted, line_of, wanted}
use Rattle.command_desk.specs.Script.{lines_of}
use Rattle.command_desk.specs.Asked.{first_names}
use Rattle.command_desk.specs.Endings.{EndsBefore}
use Rattle.command_desk.specs.Running.{RunsOn}
use Rattle.command_desk.specs.Starts.{StartsFrom}

-- The wallet and the blocks were in order, and the script was read; and its lines were run at a desk, which ended with this
-- status.
pub record EndsRunning (told_files told : Type 0) (s : Sources) (script : List ℕ) (shelf shelf' : ShelfView) (sink sink' : SinkView) (status : Status) : Type 0 where
  pub text : List ℕ
  pub desk : PlainDesk
  pub starts : StartsFrom told_files shelf.files s script text desk
  pub runs : RunsOn told_files told (first_names s script) text desk shelf shelf' sink sink' status

-- It ended before the first line, or while the lines were run.
abbrev pub Ends : Type 0 → Type 0 → Sources → (script : List ℕ) → ShelfView → ShelfView → SinkView → SinkView → Status → Type 0
Ends told_files told s script shelf shelf' sink sink' status =
    EndsBefore told_files told s script shelf shelf' sink sink' status ⊎ EndsRunning told_files told s script shelf shelf' sink sink' status

-- ---- where nothing failed

-- no read failed of the wallet, of the blocks, of the script or of a file that one of its lines names
pub record NoneUnread (s : Sources) (script : List ℕ) (shelf shelf' : ShelfView) : Type 0 where
  pub chain : (file : File) → IsUnread s.wallet s.blocks file shelf shelf' → ⊥
  pub the_script : Rose (shelf.reads script) (shelf'.reads script) → ⊥
  pub lines : (line : List ℕ) (want : Wanted) → Contains (lines_of (shelf.files script)) line → wanted (line_of line) ≡ Some want → Rose (shelf.reads want.file) (shelf'.reads want.file) → ⊥

-- nor did the sink fail
pub record NoneFailed (s : Sources) (script : List ℕ) (shelf shelf' : ShelfView) (sink sink' : SinkView) : Type 0 where
  pub reads : NoneUnread s script shelf shelf'
  pub sinks : Rose sink.faults sink'.faults → ⊥
