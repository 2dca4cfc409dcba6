use Rattle.std.proofs.Common.{◌≡◌, take, filter}
use Rattle.desk_machine.specs.State.{points}
use Rattle.fund_desk.specs.Ready.{is_ready}
use Rattle.fund_desk.proofs.ready.ready_points.Given as goal

abbrev pub invariant-loop-coin : goal.invariant-loop-coin
invariant-loop-coin l = l.ready.items ≡ filter (is_ready l.held) (points (take l.coin-index l.coins))
