use Rattle.std.proofs.Common.{take}
use Rattle.command_settle.specs.Payment.{AreAll, weight_of}
use Rattle.command_settle.proofs.payment.declared_weights.Given as goal

abbrev pub invariant-loop-i : goal.invariant-loop-i
invariant-loop-i l = AreAll (weight_of l.scripts) (take l.i l.spent) l.declared.items
