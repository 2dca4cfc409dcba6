-- What a desk is told to do.
use Rattle.std.specs.Prelude.{ℕ, ◌≤◌, List, length, string_bytes}
use Rattle.fund_outside.specs.JobName.{IsJobName}
use Rattle.desk_machine.specs.declared.command.Command as given
use Rattle.desk_machine.specs.declared.command.Command.TheVariants as givens

-- the commands, without where their words lie in memory
pub data Command : Type 0 where
  Open : (name request : List ℕ) → Command
  Turn : (name : List ℕ) → (tries : ℕ) → Command
  Commit : (name : List ℕ) → Command
  Close : (name : List ℕ) → Command
  Release : (txid : List ℕ) → Command
  Blocks : (bytes : List ℕ) → Command
  Pending : (hex : List ℕ) → Command

abbrev pub plain_command : given.Command → Command
plain_command (givens.Open name request) = Open (string_bytes name) request.items
plain_command (givens.Turn name tries) = Turn (string_bytes name) tries
plain_command (givens.Commit name) = Commit (string_bytes name)
plain_command (givens.Close name) = Close (string_bytes name)
plain_command (givens.Release txid) = Release txid
plain_command (givens.Blocks bytes) = Blocks bytes.items
plain_command (givens.Pending hex) = Pending hex.items

-- the bounds of a command: of its name, of its tries, and of the bytes of a block file
abbrev pub IsCommand : Command → Type 0
IsCommand (Open name request) = IsJobName name
IsCommand (Turn name tries) = IsJobName name × (1 ≤ tries) × (tries ≤ 10_000_000)
IsCommand (Commit name) = IsJobName name
IsCommand (Close name) = IsJobName name
IsCommand (Release txid) = Unit {0}
IsCommand (Blocks bytes) = length bytes ≤ 67_108_864
IsCommand (Pending hex) = Unit {0}
