-- The number of a status.
use Rattle.std.specs.Prelude.{ℕ}
use Rattle.command_end.specs.declared.status.Status.{Status}
use Rattle.command_end.specs.declared.status.Status.TheVariants.{Done, Usage, Input, ReadFault, WriteFault, KeepFault, Memory, Saved, Limit, Unfinished, NoSelection, CheckRefused, Settle}

-- the number that the process ends with
abbrev pub code_of : Status → ℕ
code_of Done = 0
code_of Usage = 2
code_of Input = 3
code_of ReadFault = 4
code_of WriteFault = 5
code_of KeepFault = 6
code_of Memory = 7
code_of Saved = 8
code_of Limit = 9
code_of Unfinished = 10
code_of NoSelection = 11
code_of CheckRefused = 12
code_of Settle = 13
