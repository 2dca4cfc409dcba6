use Rattle.std.proofs.Common.{◌≡◌, take}
use Rattle.fee_bump.proofs.replaced.txid_set.Given as goal

abbrev pub invariant-loop-txid : goal.invariant-loop-txid
invariant-loop-txid l = l.set.keys ≡ take l.txid-index l.txids
