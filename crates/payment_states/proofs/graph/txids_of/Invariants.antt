use Rattle.std.proofs.Common.{◌≡◌, map, take, vec_len}
use Rattle.tx_codec.specs.Txid.{txid_of}
use Rattle.payment_states.proofs.graph.txids_of.Given as goal

abbrev pub invariant-loop-tx : goal.invariant-loop-tx
invariant-loop-tx l = (l.txids.items ≡ map txid_of (take l.tx-index l.pending)) × (vec_len l.txids ≡ l.tx-index)
