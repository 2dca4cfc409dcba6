-- Why a line of a script isn't done, what is done of it, and how the run ends there.
use Rattle.std.specs.Prelude.{ℕ, ◌≡◌, ◌<◌, ◌++◌, List, Bool, true, false, codes, length, Option, Some, None}
use Rattle.fund_shelf.specs.Causes.{ShelfView, SinkView, Rose, HasPart}
use Rattle.fund_shelf.specs.declared.pieces.ReadError.{ReadError}
use Rattle.fund_shelf.specs.declared.pieces.ReadError.TheVariants as reads
use Rattle.fund_shelf.specs.declared.shelf.Fault.{Fault}
use Rattle.fund_shelf.specs.declared.shelf.Fault.TheVariants as faults
use Rattle.command_end.specs.AnswerLines.{IsWanting}
use Rattle.command_end.specs.Lines.{GotLine, fault_line}
use Rattle.command_end.specs.declared.status.Status.{Status}
use Rattle.command_end.specs.declared.status.Status.TheVariants as statuses
use Rattle.desk_machine.specs.Commands as commands
use Rattle.desk_machine.specs.Commands.{IsCommand, plain_command}
use Rattle.desk_machine.specs.State.{PlainDesk}
use Rattle.desk_machine.specs.declared.command.Command.{Command}
use Rattle.command_desk.specs.Line.{Line, Other, Says, Wanted, command_of, wanted}
use Rattle.command_desk.specs.Course.{Answers, AnswersBy, IsCommandLine, IsLong, IsWithin, file_name, long_word}
use Rattle.command_desk.specs.declared.halt.Halt.{Halt}
use Rattle.command_desk.specs.declared.halt.Halt.TheVariants as halts

-- ---- the causes

-- that of a file which wasn't read whole
abbrev pub read_halt_of : ReadError → Halt
read_halt_of reads.Failed = halts.Unread
read_halt_of reads.TooLong = halts.TooLong
read_halt_of reads.Memory = halts.Memory

-- that of a reply which wasn't put whole
abbrev pub put_halt_of : Fault → Halt
put_halt_of faults.Failed = halts.Unwritten
put_halt_of faults.Memory = halts.Full

-- ---- a line

-- some line says this
abbrev pub IsSaid : Line → Type 0
IsSaid line = (words : List ℕ) × Says words line

-- a file of this name wasn't read whole
abbrev pub HaltsReading : Type 0 → (name : List ℕ) → (most : ℕ) → ShelfView → ShelfView → Halt → Type 0
HaltsReading told name most old new halts.Unread = Rose (old.reads name) (new.reads name)
HaltsReading told name most old new halts.TooLong = told → most < length (old.files name)
HaltsReading told name most old new halts.Memory = Unit {0}
HaltsReading told name most old new halts.Unwritten = ⊥
HaltsReading told name most old new halts.Full = ⊥

-- The line is no command; or it is one, this is it and keeps its bounds, and the file is within its limit.
abbrev pub HasCommand : Type 0 → (List ℕ → List ℕ) → Line → Option Command → Type 0
HasCommand told files line None = line ≡ Other
HasCommand told files line (Some command) = IsCommandLine line × IsCommand (plain_command command) × (told → IsWithin files line × (command_of files line ≡ Some (plain_command command)))

-- the file of a line wasn't read
abbrev pub IsUnreadLine : Line → ShelfView → ShelfView → Type 0
IsUnreadLine line old new = (want : Wanted) × (wanted line ≡ Some want) × Rose (old.reads want.file) (new.reads want.file)

-- the file of a line wasn't read whole, or it is a command for which there was no memory
abbrev pub HaltsAt : Type 0 → Line → ShelfView → ShelfView → Halt → Type 0
HaltsAt told line old new halts.Unread = IsUnreadLine line old new
HaltsAt told line old new halts.TooLong = told → IsLong old.files line
HaltsAt told line old new halts.Memory = IsCommandLine line
HaltsAt told line old new halts.Unwritten = ⊥
HaltsAt told line old new halts.Full = ⊥

-- a text wasn't put whole
abbrev pub HaltsPutting : Type 0 → (text : List ℕ) → SinkView → SinkView → Halt → Type 0
HaltsPutting told text old new halts.Unwritten = Rose old.faults new.faults × (told → HasPart old.written text new.written)
HaltsPutting told text old new halts.Full = Rose old.refusals new.refusals × (told → HasPart old.written text new.written)
HaltsPutting told text old new halts.Unread = ⊥
HaltsPutting told text old new halts.TooLong = ⊥
HaltsPutting told text old new halts.Memory = ⊥

-- The command of a line was done: its reply stands behind what was in the sink.
pub record IsReplied (told : Type 0) (line : Line) (command : Option commands.Command) (d e : PlainDesk) (old new : SinkView) : Type 0 where
  pub printed : List ℕ
  pub answers : AnswersBy line command d printed e
  pub written : told → new.written ≡ old.written ++ printed

-- a part of its reply was put
pub record IsBegun (told : Type 0) (line : Line) (command : Option commands.Command) (d : PlainDesk) (old new : SinkView) : Type 0 where
  pub reply : List ℕ
  pub next : PlainDesk
  pub answers : AnswersBy line command d reply next
  pub part : told → HasPart old.written reply new.written

-- there was no memory for the reply to a command, and nothing was put; any other line takes none
abbrev pub LacksMemory : Option commands.Command → SinkView → SinkView → Type 0
LacksMemory None old new = ⊥
LacksMemory (Some command) old new = new ≡ old

-- there was no memory for the reply; or the sink failed or found no memory, and has got a part of it
abbrev pub HaltsReplying : Type 0 → Line → Option commands.Command → PlainDesk → SinkView → SinkView → Halt → Type 0
HaltsReplying told line command d old new halts.Memory = LacksMemory command old new
HaltsReplying told line command d old new halts.Unwritten = Rose old.faults new.faults × IsBegun told line command d old new
HaltsReplying told line command d old new halts.Full = Rose old.refusals new.refusals × IsBegun told line command d old new
HaltsReplying told line command d old new halts.Unread = ⊥
HaltsReplying told line command d old new halts.TooLong = ⊥

-- The line was done: its reply stands behind what was in the sink.
pub record IsDoneLine (told_files told : Type 0) (files : List ℕ → List ℕ) (line : Line) (d e : PlainDesk) (old new : SinkView) : Type 0 where
  pub printed : List ℕ
  pub answers : told_files → Answers files line d printed e
  pub written : told → new.written ≡ old.written ++ printed

-- a part of the line's reply was put
pub record HasPutPart (told_files told : Type 0) (files : List ℕ → List ℕ) (line : Line) (d : PlainDesk) (old new : SinkView) : Type 0 where
  pub reply : List ℕ
  pub next : PlainDesk
  pub answers : told_files → Answers files line d reply next
  pub part : told → HasPart old.written reply new.written

-- The line wasn't done: its file wasn't read or is too long, or it is a command for which there was no memory, and nothing was
-- put; or the sink failed or found no memory, and has got a part of the reply.
abbrev pub HaltsLine : Type 0 → Type 0 → Line → PlainDesk → ShelfView → ShelfView → SinkView → SinkView → Halt → Type 0
HaltsLine told_files told line d shelf shelf' sink sink' halts.Unread = IsUnreadLine line shelf shelf' × (sink' ≡ sink)
HaltsLine told_files told line d shelf shelf' sink sink' halts.TooLong = (told_files → IsLong shelf.files line) × (sink' ≡ sink)
HaltsLine told_files told line d shelf shelf' sink sink' halts.Memory = IsCommandLine line × (sink' ≡ sink)
HaltsLine told_files told line d shelf shelf' sink sink' halts.Unwritten = Rose sink.faults sink'.faults × HasPutPart told_files told shelf.files line d sink sink'
HaltsLine told_files told line d shelf shelf' sink sink' halts.Full = Rose sink.refusals sink'.refusals × HasPutPart told_files told shelf.files line d sink sink'

-- ---- the end

-- the status of a line that isn't done
abbrev pub status_of : Halt → Status
status_of halts.Unread = statuses.ReadFault
status_of halts.TooLong = statuses.Limit
status_of halts.Unwritten = statuses.WriteFault
status_of halts.Full = statuses.Memory
status_of halts.Memory = statuses.Memory

-- the answer where it is the first line of the script: the fault line, unless it was the sink that failed
abbrev pub EndsFirst : Type 0 → Line → Halt → SinkView → SinkView → Status → Type 0
EndsFirst told line halts.Unread old new result = (result ≡ statuses.ReadFault) × (told → GotLine (fault_line (codes "read " ++ file_name line)) old new)
EndsFirst told line halts.TooLong old new result = (result ≡ statuses.Limit) × (told → GotLine (fault_line (codes "limit " ++ long_word line)) old new)
EndsFirst told line halts.Unwritten old new result = (result ≡ statuses.WriteFault) × (new ≡ old)
EndsFirst told line halts.Full old new result = (result ≡ statuses.Memory) × (new ≡ old)
EndsFirst told line halts.Memory old new result = IsWanting told old new result

-- the answer; where it isn't the first line nothing more is put
abbrev pub EndsAt : Type 0 → Line → Halt → (is_first : Bool) → SinkView → SinkView → Status → Type 0
EndsAt told line halt true old new result = EndsFirst told line halt old new result
EndsAt told line halt false old new result = (result ≡ status_of halt) × (new ≡ old)
