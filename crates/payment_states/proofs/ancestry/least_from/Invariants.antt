use Rattle.std.proofs.Common.{◌≡◌, take}
use Rattle.payment_states.specs.Least.{least_by, lesser, value_at}
use Rattle.payment_states.proofs.ancestry.least_from.Given as goal

abbrev pub invariant-loop-parent : goal.invariant-loop-parent
invariant-loop-parent l = l.here ≡ lesser l.fn.own (least_by (value_at l.least) (take l.parent-index l.parents))
