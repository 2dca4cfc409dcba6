-- Signals of replacement.
use Rattle.std.specs.Prelude.{◌<◌, Any}
use Rattle.tx_codec.specs.declared.tx.TxIn.{TxIn}
use Rattle.tx_codec.specs.Transaction.{Transaction}

-- some input's sequence is below FFFFFFFE (BIP 125, 'Specification')
abbrev pub Signals : Transaction → Type 0
Signals t = Any (λ (i : TxIn). i.sequence < 4_294_967_294) t.inputs
