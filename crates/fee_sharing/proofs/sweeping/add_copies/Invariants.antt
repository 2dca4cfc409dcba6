use Rattle.std.proofs.Common.{◌≡◌, ◌++◌, take}
use Rattle.fee_sharing.proofs.sweeping.add_copies.Given as goal

abbrev pub invariant-loop-coin : goal.invariant-loop-coin
invariant-loop-coin l = l.coins.items ≡ l.initial.coins.items ++ take l.coin-index l.group
