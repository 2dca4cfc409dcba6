use Rattle.std.proofs.Common.{◌≡◌, ◌++◌, take}
use Rattle.fund_plan.proofs.chosen.add.Given as goal

abbrev pub invariant-loop-coin : goal.invariant-loop-coin
invariant-loop-coin l = l.coins.items ≡ l.initial.coins.items ++ take l.coin-index l.more
