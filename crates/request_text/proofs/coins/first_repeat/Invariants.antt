use Rattle.std.proofs.Common.{◌≡◌, ◌≤◌, ◌+◌, [], length, take, drop}
use Rattle.fund_base.specs.Outpoints.{same_outpoint}
use Rattle.indexmap.specs.IndexSet.{IsUnique, spare}
use Rattle.request_text.specs.RequestText.{repeat_behind}
use Rattle.request_text.proofs.coins.first_repeat.Given as goal

abbrev pub invariant-loop-coin : goal.invariant-loop-coin
invariant-loop-coin l = record {
  keys : l.seen.keys ≡ take l.coin-index l.coins;
  read : repeat_behind l.seen.keys (drop l.coin-index l.coins) ≡ repeat_behind [] l.coins;
  unique : IsUnique same_outpoint l.seen;
  room : length l.coins ≤ spare l.seen + l.coin-index;
}
