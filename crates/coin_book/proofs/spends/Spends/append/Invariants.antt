use Rattle.std.proofs.Common.{◌≡◌, ◌++◌, take}
use Rattle.fund_base.specs.declared.outpoint.OutPoint.{OutPoint}
use Rattle.coin_book.specs.Places.{all_in, spends_in}
use Rattle.coin_book.proofs.spends.Spends.append.Given as goal

abbrev pub invariant-loop-i : goal.invariant-loop-i
invariant-loop-i l = (o : OutPoint) → spends_in l.self o ≡ spends_in l.initial.self o ++ all_in (take l.i l.more) o
