use Rattle.std.proofs.Common.{◌≡◌, take}
use Rattle.desk_machine.specs.State.{points}
use Rattle.fund_desk.proofs.payments.points_of.Given as goal

abbrev pub invariant-loop-coin : goal.invariant-loop-coin
invariant-loop-coin l = l.points.items ≡ points (take l.coin-index l.coins)
