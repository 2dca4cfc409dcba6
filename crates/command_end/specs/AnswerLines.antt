-- How a command that stops is answered.
use Rattle.std.specs.Prelude.{ℕ, ◌≡◌, List, codes}
use Rattle.fund_shelf.specs.Causes.{SinkView}
use Rattle.command_end.specs.declared.status.Status.{Status}
use Rattle.command_end.specs.declared.status.Status.TheVariants as statuses
use Rattle.command_end.specs.Lines.{GotLine, fault_line}

-- this status, with the line of these words
abbrev pub IsAnswered : Type 0 → List ℕ → Status → SinkView → SinkView → Status → Type 0
IsAnswered told words status old new result = (result ≡ status) × (told → GotLine (fault_line words) old new)

-- the status of being out of memory, with its line
abbrev pub IsWanting : Type 0 → SinkView → SinkView → Status → Type 0
IsWanting told old new result = IsAnswered told (codes "memory") statuses.Memory old new result
