-- What it means that a PSBT is made whole: BIP 174, the input types 00 (PSBT_IN_NON_WITNESS_UTXO) and 01
-- (PSBT_IN_WITNESS_UTXO), which may stand beside one another.
use Rattle.std.specs.Prelude.{◌≡◌, List, slice_get, Option, Some, IfSome}
use Rattle.std.specs.List.{AllZip, zip}
use Rattle.std.specs.Option.{option_or}
use Rattle.coin_book.specs.Coins.{parent_of}
use Rattle.coin_book.specs.History.{History}
use Rattle.psbt_codec.specs.PartialTransaction.{PartialTransaction}
use Rattle.psbt_codec.specs.Psbt.{IsParent}
use Rattle.psbt_codec.specs.declared.psbt.Spent.{Spent}
use Rattle.tx_codec.specs.Transaction.{Transaction}
use Rattle.tx_codec.specs.declared.tx.TxIn.{TxIn}
use Rattle.tx_codec.specs.declared.tx.TxOut.{TxOut}

-- an input, and what is known of the output that it spends
abbrev pub Known : Type 0
Known = TxIn × Spent

-- the inputs of a PSBT, in order, each with what is known of the output that it spends
abbrev pub known_of : PartialTransaction → List Known
known_of p = zip p.tx.inputs p.spent

-- the whole transaction that is due beside an input: the one that stands there, or else the one whose output is the book's
-- coin at the outpoint that the input spends
abbrev pub due_for : History → Known → Option Transaction
due_for h k = option_or k.1.whole (parent_of h k.0.prev)

-- The output that stands beside an input, where there is one, is that of this transaction at the index that the input spends.
abbrev pub HasTold : Known → Transaction → Type 0
HasTold k whole = IfSome k.1.paid (λ (told : TxOut). slice_get whole.outputs k.0.prev.index ≡ Some told)

-- Beside the input stands the whole transaction that is due there: it has the txid that the input spends, and an output at
-- the index that it spends. The output that stood there still does, and is that output; and nothing else stands there.
pub record IsCompletedInput (h : History) (k : Known) (s : Spent) : Type 0 where
  pub whole : Transaction
  pub is_due : due_for h k ≡ Some whole
  pub parent : IsParent k.0 whole
  pub told : HasTold k whole
  pub shown : s.whole ≡ Some whole
  pub paid : s.paid ≡ k.1.paid

-- The second PSBT is the first made whole from a book: its unsigned transaction is the same, and so is each input but for
-- the whole transaction beside it.
pub record IsCompleted (h : History) (p q : PartialTransaction) : Type 0 where
  pub tx : q.tx ≡ p.tx
  pub inputs : AllZip (IsCompletedInput h) (known_of p) q.spent
