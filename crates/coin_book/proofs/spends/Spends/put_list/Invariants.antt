use Rattle.std.proofs.Common.{◌≡◌, ◌++◌, [], take}
use Rattle.std.specs.Prelude.{if◌then◌else◌}
use Rattle.fund_base.specs.Outpoints.{same_outpoint}
use Rattle.fund_base.specs.declared.outpoint.OutPoint.{OutPoint}
use Rattle.coin_book.specs.Places.{spends_in}
use Rattle.coin_book.proofs.spends.Spends.put_list.Given as goal

abbrev pub invariant-loop-i : goal.invariant-loop-i
invariant-loop-i l = (o : OutPoint) → spends_in l.self o ≡ spends_in l.initial.self o ++ (if same_outpoint l.point o then take l.i l.list else [])
