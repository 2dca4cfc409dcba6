use Rattle.std.proofs.Common.{◌≡◌, take}
use Rattle.command_amounts.specs.Amounts.{given}
use Rattle.command_amounts.proofs.amounts.given.Given as goal

abbrev pub invariant-loop-place : goal.invariant-loop-place
invariant-loop-place l = l.copies.items ≡ given (take l.place l.recipients) (take l.place l.amounts)
