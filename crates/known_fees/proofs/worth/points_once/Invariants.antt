use Rattle.std.proofs.Common.{◌≡◌, map, take}
use Rattle.tx_codec.specs.declared.tx.TxIn.{TxIn}
use Rattle.known_fees.specs.Worth.{once_of}
use Rattle.known_fees.proofs.worth.points_once.Given as goal

abbrev pub invariant-loop-input : goal.invariant-loop-input
invariant-loop-input l = l.points.keys ≡ once_of (map (λ (i : TxIn). i.prev) (take l.input-index l.inputs))
