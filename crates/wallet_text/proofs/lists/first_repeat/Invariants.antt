use Rattle.std.proofs.Common.{◌≡◌, ◌≤◌, ◌+◌, [], length, take, drop}
use Rattle.indexmap.specs.IndexSet.{spare}
use Rattle.wallet_text.specs.WalletText.{repeat_from}
use Rattle.wallet_text.proofs.lists.first_repeat.Given as goal

abbrev pub invariant-loop-index : goal.invariant-loop-index
invariant-loop-index l = record {
  seen : l.seen.keys ≡ take l.index l.txids;
  read : repeat_from (take l.index l.txids) (drop l.index l.txids) ≡ repeat_from [] l.txids;
  room : length l.txids ≤ spare l.seen + l.index;
}
