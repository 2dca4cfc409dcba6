use Rattle.std.proofs.Common.{◌≡◌, ◌≤◌, ◌++◌, List, length, take}
use Rattle.fund_base.specs.declared.outpoint.OutPoint.{OutPoint}
use Rattle.coin_book.specs.Places.{all_in, spends_in}
use Rattle.coin_book.specs.declared.coin.Spend.{Spend}
use Rattle.coin_book.proofs.spends.Spends.cut_entries.Given as goal

abbrev pub invariant-loop-left : goal.invariant-loop-left
invariant-loop-left l = record {
  within : l.left ≤ length l.more;
  cut : (front : OutPoint → List Spend) → ((o : OutPoint) → spends_in l.initial.self o ≡ front o ++ all_in (take l.fn.count l.more) o) → (o : OutPoint) → spends_in l.self o ≡ front o ++ all_in (take l.left l.more) o;
}

abbrev pub decreases-loop-left : goal.decreases-loop-left
decreases-loop-left l = l.left
