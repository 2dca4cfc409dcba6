use Rattle.std.proofs.Common.{◌≡◌}
use Rattle.fund_steps.specs.Selection.{by_outpoint}
use Rattle.fund_steps.proofs.selection.in_order.Given as goal

abbrev pub invariant-loop-coin : goal.invariant-loop-coin
invariant-loop-coin l = l.ordered.entries ≡ by_outpoint l.yielded
