use Rattle.std.proofs.Common.{◌≡◌, not, take, filter}
use Rattle.std.specs.Prelude.{bytes_eq}
use Rattle.indexmap.specs.IndexSet.{contains}
use Rattle.tx_codec.specs.Transaction.{Transaction}
use Rattle.tx_codec.specs.Txid.{txid_of}
use Rattle.payment_facts.proofs.left_out.left_of.Given as goal

abbrev pub invariant-loop-tx : goal.invariant-loop-tx
invariant-loop-tx l = l.left.items ≡ filter (λ (t : Transaction). not (contains bytes_eq l.gone (txid_of t))) (take l.tx-index l.txs)
