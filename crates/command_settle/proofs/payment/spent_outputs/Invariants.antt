use Rattle.std.proofs.Common.{take}
use Rattle.std.specs.List.{zip}
use Rattle.command_settle.specs.Payment.{AreAll, output_of}
use Rattle.command_settle.proofs.payment.spent_outputs.Given as goal

abbrev pub invariant-loop-i : goal.invariant-loop-i
invariant-loop-i l = AreAll output_of (take l.i (zip l.inputs l.known)) l.spent.items
