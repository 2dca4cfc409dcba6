-- Which transaction made a coin.
use Rattle.std.specs.Prelude.{◌≡◌, slice_get, Some}
use Rattle.coin_candidates.specs.declared.candidate.Candidate.{Candidate}
use Rattle.tx_codec.specs.Transaction.{Transaction}
use Rattle.tx_codec.specs.Txid.{txid_of}
use Rattle.tx_codec.specs.declared.tx.TxOut.{TxOut}
use Rattle.coin_book.specs.Coins.{parent_of}
use Rattle.coin_book.specs.History.{History}

-- the output that a coin is
abbrev pub output_of : Candidate → TxOut
output_of c = record { value = c.value; script = c.script }

-- The transaction has the coin's txid, and at the coin's index an output of the coin's value and script.
pub record Makes (t : Transaction) (c : Candidate) : Type 0 where
  pub txid : txid_of t ≡ c.coin.txid
  pub output : slice_get t.outputs c.coin.index ≡ Some (output_of c)

-- the history has such a transaction at the coin's outpoint
pub record HasMaker (h : History) (c : Candidate) : Type 0 where
  pub maker : Transaction
  pub parent : parent_of h c.coin ≡ Some maker
  pub makes : Makes maker c
