-- What the inputs of a signed transaction weigh, beside what they were declared to weigh.
use Rattle.std.specs.Prelude.{ℕ, Bool, List, map}
use Rattle.std.specs.List.{zip}
use Rattle.settle_check.specs.Settled.{true_weight_of}
use Rattle.tx_codec.specs.Transaction.{Transaction}
use Rattle.tx_codec.specs.declared.tx.TxIn.{TxIn}
use Rattle.settle_table.specs.declared.inputs.WeighedInput.{WeighedInput}

-- an input and the weight that was declared for it: the output that it spends, what it weighs in this form, and that weight
abbrev pub weighed_of : (segwit : Bool) → TxIn × ℕ → WeighedInput
weighed_of segwit x = record { coin = x.0.prev; weight = true_weight_of segwit x.0; declared = x.1 }

-- so each input
abbrev pub weighed_in : Transaction → (declared : List ℕ) → List WeighedInput
weighed_in t declared = map (weighed_of t.segwit) (zip t.inputs declared)
