use Rattle.std.proofs.Common.{◌≡◌, take}
use Rattle.block_feed.proofs.reading.leaves.Given as goal

abbrev pub invariant-loop-txid : goal.invariant-loop-txid
invariant-loop-txid l = l.leaves.items ≡ take l.txid-index l.txids
