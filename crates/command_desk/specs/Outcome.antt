-- What the files of a desk come to.
use Rattle.std.specs.Prelude.{ℕ, Bool, false, List, [], ◌∷◌, length, nat_lt, Result, Ok, Err, if◌then◌else◌}
use Rattle.std.specs.List.{list_any}
use Rattle.std.specs.Option.{option_map_or}
use Rattle.fund_files.specs.Cause.{FileCause}
use Rattle.fund_files.specs.Outcome.{chain_of}
use Rattle.fund_files.specs.declared.chain.Chain.{Chain}
use Rattle.command_end.specs.Lines.{status_of_file}
use Rattle.command_end.specs.Names.{Sources}
use Rattle.command_end.specs.declared.status.Status.{Status}
use Rattle.command_end.specs.declared.status.Status.TheVariants as statuses
use Rattle.command_desk.specs.Line.{Wanted, line_of, wanted}
use Rattle.command_desk.specs.Script.{lines_of}

-- The wallet or the blocks are refused for a cause; the script is too long, or the file of its first line; the file of a
-- later line is; or each line is replied to.
pub data Outcome : Type 0 where
  Refused : FileCause → Outcome
  TooLong : Outcome
  Halted : Outcome
  Replied : Outcome

-- the line names a file that is longer than its limit
abbrev pub is_long : (List ℕ → List ℕ) → List ℕ → Bool
is_long files line = option_map_or (λ (w : Wanted). nat_lt w.most (length (files w.file))) (wanted (line_of line)) false

-- by the lines
abbrev pub by_lines : (List ℕ → List ℕ) → List (List ℕ) → Outcome
by_lines files [] = Replied
by_lines files (line ∷ lines) = if is_long files line then TooLong else if list_any (is_long files) lines then Halted else Replied

-- by the script
abbrev pub by_script : (List ℕ → List ℕ) → (text : List ℕ) → Outcome
by_script files text = if nat_lt 16777216 (length text) then TooLong else by_lines files (lines_of text)

-- by the wallet and the blocks, or the cause for which they are refused
abbrev pub by_chain : (List ℕ → List ℕ) → (text : List ℕ) → Result Chain FileCause → Outcome
by_chain files text (Err cause) = Refused cause
by_chain files text (Ok k) = by_script files text

abbrev pub outcome_of : (List ℕ → List ℕ) → Sources → (script : List ℕ) → Outcome
outcome_of files s script = by_chain files (files script) (chain_of (files s.wallet) (files s.blocks))

-- the status of that, where nothing fails
abbrev pub status_of : Outcome → Status
status_of (Refused cause) = status_of_file cause
status_of TooLong = statuses.Limit
status_of Halted = statuses.Limit
status_of Replied = statuses.Done

-- something is refused before anything is printed
abbrev pub IsRefusal : Outcome → Type 0
IsRefusal (Refused cause) = Unit {0}
IsRefusal TooLong = Unit {0}
IsRefusal Halted = ⊥
IsRefusal Replied = ⊥
