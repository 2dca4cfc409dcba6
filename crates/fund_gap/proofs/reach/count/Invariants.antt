use Rattle.std.proofs.Common.{◌≡◌, ◌≤◌, ◌*◌, take}
use Rattle.std.specs.Prelude.{sum}
use Rattle.fund_gap.proofs.reach.count.Given as goal

abbrev pub invariant-loop-size : goal.invariant-loop-size
invariant-loop-size l = (l.sum ≡ sum (take l.size-index l.sizes)) × (l.sum ≤ 100 * l.size-index)
