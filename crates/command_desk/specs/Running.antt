-- How the run of the lines of a script ends at a desk. The text is the script's, and the names are those of the files that
-- were read before the first line.
use Rattle.std.specs.Prelude.{ℕ, ◌≡◌, ◌⊎◌, List, [], ◌∷◌, ◌++◌, codes, Some}
use Rattle.fund_shelf.specs.Causes.{Asks, ShelfView, SinkView, Rose, HasPart}
use Rattle.command_end.specs.Lines.{GotLine, fault_line}
use Rattle.command_end.specs.declared.status.Status.{Status}
use Rattle.command_end.specs.declared.status.Status.TheVariants as statuses
use Rattle.desk_machine.specs.State.{PlainDesk}
use Rattle.command_desk.specs.Line.{Wanted, line_of, wanted}
use Rattle.command_desk.specs.Script.{lines_of}
use Rattle.command_desk.specs.Asked.{files_in}
use Rattle.command_desk.specs.Course.{Answers, Course, IsCommandLine, IsLong, long_word}

-- ---- where it ends

-- The run came to a line of the script, with some lines before it and a desk that was led so far. To the lines before it this
-- was printed; and behind the file of this line none was asked for.
pub record StandsAt (told_files : Type 0) (names : List (List ℕ)) (text : List ℕ) (d : PlainDesk) (shelf shelf' : ShelfView) (front : List (List ℕ)) (line printed : List ℕ) (new : PlainDesk) : Type 0 where
  pub rest : List (List ℕ)
  pub parts : lines_of text ≡ front ++ line ∷ rest
  pub course : told_files → Course shelf.files front d printed new
  pub asked : told_files → Asks (names ++ files_in (front ++ line ∷ [])) shelf.asked shelf'.asked

-- What the sink has got where a line isn't replied to: behind what was there all replies to the lines before; or, where there
-- are no lines before, the fault line of these words.
abbrev pub GotBefore : (words : List ℕ) → (front : List (List ℕ)) → (printed : List ℕ) → SinkView → SinkView → Type 0
GotBefore words [] printed old new = GotLine (fault_line words) old new
GotBefore words (line ∷ front) printed old new = new.written ≡ old.written ++ printed

-- the run stopped at this line, before a reply to it
pub record StopsAt (told_files told : Type 0) (names : List (List ℕ)) (text : List ℕ) (d : PlainDesk) (shelf shelf' : ShelfView) (sink sink' : SinkView) (line words : List ℕ) : Type 0 where
  pub front : List (List ℕ)
  pub printed : List ℕ
  pub new : PlainDesk
  pub stands : StandsAt told_files names text d shelf shelf' front line printed new
  pub got : told → GotBefore words front printed sink sink'

-- the run stopped in the reply to a line: the sink has got those to the lines before, and a part of this one
pub record StopsInside (told_files told : Type 0) (names : List (List ℕ)) (text : List ℕ) (d : PlainDesk) (shelf shelf' : ShelfView) (sink sink' : SinkView) : Type 0 where
  pub front : List (List ℕ)
  pub line : List ℕ
  pub printed : List ℕ
  pub reply : List ℕ
  pub new : PlainDesk
  pub next : PlainDesk
  pub stands : StandsAt told_files names text d shelf shelf' front line printed new
  pub answers : told_files → Answers shelf.files (line_of line) new reply next
  pub part : told → HasPart (sink.written ++ printed) reply sink'.written

-- ---- by the status

-- done: to each line of the script its reply is printed whole
abbrev pub RunsDone : Type 0 → Type 0 → (text : List ℕ) → PlainDesk → ShelfView → SinkView → SinkView → Type 0
RunsDone told_files told text d shelf sink sink' =
    (printed : List ℕ) × (new : PlainDesk) × (told_files → Course shelf.files (lines_of text) d printed new) × (told → sink'.written ≡ sink.written ++ printed)

-- the file of a line wasn't read, and where there are no lines before, the fault line names it
abbrev pub RunsUnread : Type 0 → Type 0 → (names : List (List ℕ)) → (text : List ℕ) → PlainDesk → ShelfView → ShelfView → SinkView → SinkView → Type 0
RunsUnread told_files told names text d shelf shelf' sink sink' =
    (line : List ℕ) × (want : Wanted) × (wanted (line_of line) ≡ Some want) × Rose (shelf.reads want.file) (shelf'.reads want.file)
    × StopsAt told_files told names text d shelf shelf' sink sink' line (codes "read " ++ want.file)

-- the file of a line is longer than its limit
abbrev pub RunsLimited : Type 0 → Type 0 → (names : List (List ℕ)) → (text : List ℕ) → PlainDesk → ShelfView → ShelfView → SinkView → SinkView → Type 0
RunsLimited told_files told names text d shelf shelf' sink sink' =
    (line : List ℕ) × (told_files → IsLong shelf.files (line_of line)) × StopsAt told_files told names text d shelf shelf' sink sink' line (codes "limit " ++ long_word (line_of line))

-- There was not enough memory at a line that is a command; or the sink found none in the reply to a line.
abbrev pub RunsWithoutMemory : Type 0 → Type 0 → (names : List (List ℕ)) → (text : List ℕ) → PlainDesk → ShelfView → ShelfView → SinkView → SinkView → Type 0
RunsWithoutMemory told_files told names text d shelf shelf' sink sink' =
    ((line : List ℕ) × IsCommandLine (line_of line) × StopsAt told_files told names text d shelf shelf' sink sink' line (codes "memory"))
    ⊎ (Rose sink.refusals sink'.refusals × StopsInside told_files told names text d shelf shelf' sink sink')

abbrev pub RunsOn : Type 0 → Type 0 → (names : List (List ℕ)) → (text : List ℕ) → PlainDesk → ShelfView → ShelfView → SinkView → SinkView → Status → Type 0
RunsOn told_files told names text d shelf shelf' sink sink' statuses.Done = RunsDone told_files told text d shelf sink sink'
RunsOn told_files told names text d shelf shelf' sink sink' statuses.ReadFault = RunsUnread told_files told names text d shelf shelf' sink sink'
RunsOn told_files told names text d shelf shelf' sink sink' statuses.Limit = RunsLimited told_files told names text d shelf shelf' sink sink'
RunsOn told_files told names text d shelf shelf' sink sink' statuses.WriteFault = Rose sink.faults sink'.faults × StopsInside told_files told names text d shelf shelf' sink sink'
RunsOn told_files told names text d shelf shelf' sink sink' statuses.Memory = RunsWithoutMemory told_files told names text d shelf shelf' sink sink'
RunsOn told_files told names text d shelf shelf' sink sink' statuses.NoSelection = ⊥
RunsOn told_files told names text d shelf shelf' sink sink' statuses.Unfinished = ⊥
RunsOn told_files told names text d shelf shelf' sink sink' statuses.Usage = ⊥
RunsOn told_files told names text d shelf shelf' sink sink' statuses.Input = ⊥
RunsOn told_files told names text d shelf shelf' sink sink' statuses.KeepFault = ⊥
RunsOn told_files told names text d shelf shelf' sink sink' statuses.Saved = ⊥
RunsOn told_files told names text d shelf shelf' sink sink' statuses.CheckRefused = ⊥
RunsOn told_files told names text d shelf shelf' sink sink' statuses.Settle = ⊥
