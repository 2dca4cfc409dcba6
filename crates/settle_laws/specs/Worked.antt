-- A payment that is worked out by hand: one P2WPKH coin of 101,100 satoshi, which declares 272 weight units, pays 100,000 to a
-- P2WPKH script at a rate of 10,000.
use Rattle.std.specs.Prelude.{ℕ, Bool, true, false, List, [], ◌∷◌, replicate}
use Rattle.tx_codec.specs.declared.tx.TxIn.{TxIn}
use Rattle.tx_codec.specs.declared.tx.TxOut.{TxOut}
use Rattle.tx_codec.specs.Transaction.{Transaction}

-- a P2WPKH script of a key hash of equal bytes
abbrev pub script_of : ℕ → List ℕ
script_of byte = 0 ∷ 20 ∷ replicate 20 byte

-- the coin, and what its input was declared to weigh
abbrev pub worked_spent : List TxOut
worked_spent = record { value = 101_100; script = script_of 170 } ∷ []

abbrev pub worked_declared : List ℕ
worked_declared = 272 ∷ []

-- the input with this witness
abbrev pub worked_input : List (List ℕ) → TxIn
worked_input witness = record { prev = record { txid = replicate 32 1; index = 0 }; script = []; sequence = 4_294_967_293; witness = witness }

-- the payment, with this witness in this form
abbrev pub worked_by : Bool → List (List ℕ) → Transaction
worked_by segwit witness = record {
  version = 2;
  inputs = worked_input witness ∷ [];
  outputs = record { value = 100_000; script = script_of 187 } ∷ [];
  locktime = 0;
  segwit = segwit;
}

-- the payment that is to be signed
abbrev pub worked_payment : Transaction
worked_payment = worked_by false []

-- the same, signed by a signature of so many bytes and a key of 33
abbrev pub worked_signed : ℕ → Transaction
worked_signed size = worked_by true (replicate size 48 ∷ replicate 33 2 ∷ [])
