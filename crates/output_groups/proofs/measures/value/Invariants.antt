use Rattle.std.proofs.Common.{◌≡◌, ◌≤◌, ◌*◌, take}
use Rattle.output_groups.specs.Measures.{value_of}
use Rattle.output_groups.proofs.measures.value.Given as goal

abbrev pub invariant-loop-lent : goal.invariant-loop-lent
invariant-loop-lent l = (l.sum ≡ value_of l.rate (take l.lent-index l.coins)) × (l.sum ≤ 2_100_000_000_000_000 * l.lent-index) × (l.lent-index ≤ l.sum)
