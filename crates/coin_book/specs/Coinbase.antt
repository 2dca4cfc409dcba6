-- Transactions that make new money.
use Rattle.std.specs.Prelude.{◌==◌, ◌&&◌, List, [], ◌∷◌, Bool, false, bytes_eq, replicate}
use Rattle.tx_codec.specs.declared.tx.TxIn.{TxIn}
use Rattle.tx_codec.specs.Transaction.{Transaction}

-- an input that spends no output: its txid is 32 zero bytes and its index FFFFFFFF
abbrev pub is_null : TxIn → Bool
is_null i = bytes_eq i.prev.txid (replicate 32 0) && (i.prev.index == 4294967295)

-- there is one input, and it spends no output
abbrev pub is_only_null : List TxIn → Bool
is_only_null [] = false
is_only_null (i ∷ []) = is_null i
is_only_null (i ∷ j ∷ inputs) = false

-- a coinbase (Bitcoin Core, `IsCoinBase`)
unfoldable pub is_coinbase_of : Transaction → Bool
is_coinbase_of t = is_only_null t.inputs
