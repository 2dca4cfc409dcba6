use Rattle.std.proofs.Common.{take}
use Rattle.std.specs.List.{AllZip, zip}
use Rattle.command_complete.specs.Completed.{IsCompletedInput}
use Rattle.command_complete.proofs.psbt.completed_inputs.Given as goal

abbrev pub invariant-completing : goal.invariant-completing
invariant-completing l = AllZip (IsCompletedInput l.book) (take l.i (zip l.inputs l.spent)) l.completed.items
