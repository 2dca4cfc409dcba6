-- What it means that a coin is an output of a transaction.
use Rattle.std.specs.Prelude.{ℕ, ◌≡◌, ◌≤◌, List, slice_get, Option, Some}
use Rattle.tx_codec.specs.Transaction.{Transaction}
use Rattle.tx_codec.specs.Txid.{txid_of}
use Rattle.tx_codec.specs.declared.tx.TxOut.{TxOut}
use Rattle.coin_book.specs.Coinbase.{is_coinbase_of}
use Rattle.coin_book.specs.Coins.{Made}

-- The transaction has an output at the coin's index, at most 4,294,967,295, that pays a listed script, and the coin
-- tells its value, its script, the weight for it, and the transaction's txid, height and whether it is a coinbase.
pub record IsCoinOf (weigh : List ℕ → Option ℕ) (height : Option ℕ) (t : Transaction) (m : Made) : Type 0 where
  pub output : TxOut
  pub stands : slice_get t.outputs m.coin.coin.index ≡ Some output
  pub within : m.coin.coin.index ≤ 4294967295
  pub listed : weigh output.script ≡ Some m.coin.weight
  pub txid : txid_of t ≡ m.coin.coin.txid
  pub value : output.value ≡ m.coin.value
  pub script : output.script ≡ m.coin.script
  pub height_is : height ≡ m.coin.height
  pub coinbase : is_coinbase_of t ≡ m.coin.coinbase
  pub maker : t ≡ m.maker
