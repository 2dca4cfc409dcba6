use Rattle.std.proofs.Common.{ℕ, ◌+◌, ◌<◌, get_or}
use Rattle.pick_problem.specs.declared.item.Item.{Item}
use Rattle.pick_problem.specs.Pool.{IsInOrder}
use Rattle.pick_problem.proofs.item.are_in_order.Given as goal

abbrev pub invariant-loop-next : goal.invariant-loop-next
invariant-loop-next l = (k : ℕ) (d : Item) → k + 1 < l.next → IsInOrder (get_or l.items k d) (get_or l.items (k + 1) d)
