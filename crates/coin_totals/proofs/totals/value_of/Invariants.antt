use Rattle.std.proofs.Common.{◌≡◌, ◌≤◌, ◌*◌, take}
use Rattle.coin_totals.specs.Totals.{value_of}
use Rattle.coin_totals.proofs.totals.value_of.Given as goal

abbrev pub invariant-loop-coin : goal.invariant-loop-coin
invariant-loop-coin l = record {
  sum : l.value ≡ value_of l.class (take l.coin-index l.coins);
  most : l.value ≤ 18_446_744_073_709_551_615 * l.coin-index;
}
