use Rattle.std.proofs.Common.{◌≡◌, ◌≤◌, take}
use Rattle.coin_totals.specs.Totals.{count_of}
use Rattle.coin_totals.proofs.totals.count_of.Given as goal

abbrev pub invariant-loop-coin : goal.invariant-loop-coin
invariant-loop-coin l = record {
  sum : l.count ≡ count_of l.class (take l.coin-index l.coins);
  most : l.count ≤ l.coin-index;
}
