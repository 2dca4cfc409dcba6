use Rattle.std.proofs.Common.{◌↔◌, drop}
use Rattle.fund_steps.specs.Selection.{AreSorted}
use Rattle.report_check.proofs.given.are_sorted.Given as goal

abbrev pub invariant-rising : goal.invariant-rising
invariant-rising l = AreSorted (drop l.i l.coins) ↔ AreSorted l.coins
