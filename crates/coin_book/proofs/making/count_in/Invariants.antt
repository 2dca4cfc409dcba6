use Rattle.std.proofs.Common.{◌≡◌, ◌≤◌, None, length}
use Rattle.coin_book.specs.Coins.{coin_at, coins_below}
use Rattle.coin_book.specs.Invariant.{weigher}
use Rattle.coin_book.proofs.making.count_in.Given as goal

abbrev pub invariant-loop-index : goal.invariant-loop-index
invariant-loop-index l = record {
  counted : l.count ≡ length (coins_below (coin_at (weigher l.weights.entries) None l.tx) l.index);
  few : l.count ≤ l.index;
}
