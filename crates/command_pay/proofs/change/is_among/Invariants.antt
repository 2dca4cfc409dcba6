use Rattle.std.proofs.Common.{◌≡◌, drop}
use Rattle.command_pay.specs.Change.{is_among}
use Rattle.command_pay.proofs.change.is_among.Given as goal

abbrev pub invariant-loop-one : goal.invariant-loop-one
invariant-loop-one l = is_among l.script (drop l.one-index l.scripts) ≡ is_among l.script l.scripts
