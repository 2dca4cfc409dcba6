use Rattle.std.proofs.Common.{◌≡◌, ◌*◌, take}
use Rattle.std.specs.Prelude.{◌≤ℤ◌, pos, neg_ℤ}
use Rattle.output_groups.specs.Measures.{cost_of}
use Rattle.output_groups.proofs.measures.cost.Given as goal

abbrev pub invariant-loop-lent : goal.invariant-loop-lent
invariant-loop-lent l =
    (l.sum ≡ cost_of l.rate l.long_term (take l.lent-index l.coins))
    × (neg_ℤ (pos (10_000_000_000 * l.lent-index)) ≤ℤ l.sum) × (l.sum ≤ℤ pos (2_100_010_000_000_000 * l.lent-index))
