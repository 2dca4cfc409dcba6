use Rattle.std.proofs.Common.{◌≡◌, ◌++◌, take}
use Rattle.output_groups.proofs.groups.add_copies.Given as goal

abbrev pub invariant-loop-lent : goal.invariant-loop-lent
invariant-loop-lent l = l.copies.items ≡ l.initial.copies.items ++ take l.lent-index l.coins
