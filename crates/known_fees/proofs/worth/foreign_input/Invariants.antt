use Rattle.std.proofs.Common.{◌≡◌, map, take, None}
use Rattle.tx_codec.specs.declared.tx.TxIn.{TxIn}
use Rattle.known_fees.specs.Worth.{first_foreign}
use Rattle.known_fees.proofs.worth.foreign_input.Given as goal

abbrev pub invariant-loop-input : goal.invariant-loop-input
invariant-loop-input l = first_foreign l.book l.txs (map (λ (i : TxIn). i.prev) (take l.input-index l.inputs)) ≡ None
