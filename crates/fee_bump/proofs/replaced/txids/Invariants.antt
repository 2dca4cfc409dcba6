use Rattle.std.proofs.Common.{◌≡◌, map, take}
use Rattle.tx_codec.specs.Txid.{txid_of}
use Rattle.fee_bump.proofs.replaced.txids.Given as goal

abbrev pub invariant-loop-tx : goal.invariant-loop-tx
invariant-loop-tx l = l.txids.items ≡ map txid_of (take l.tx-index l.txs)
