-- The txids of a block's transactions, and the block whose transactions stay in its bytes.
use Rattle.std.specs.Prelude.{ℕ, ◌≡◌, ◌≤◌, ◌<◌, ◌==◌, List, [], length, map, Result, Ok, Err, if◌then◌else◌}
use Rattle.fund_base.specs.Cursor.{At, after, compact_at}
use Rattle.fund_base.specs.Parsing.{◌>>=◌, fault_as, many_at}
use Rattle.tx_codec.specs.Reading.{cut, tx_at}
use Rattle.tx_codec.specs.Transaction.{Transaction}
use Rattle.tx_codec.specs.Txid.{txid_of}
use Rattle.tx_codec.specs.declared.fault.TxFault.{TxFault}
use Rattle.block_feed.specs.Block.{ChainBlock}
use Rattle.block_feed.specs.Reading.{counted_txs_at, tx_fault}
use Rattle.block_feed.specs.declared.fault.FeedFault.{FeedFault}
use Rattle.block_feed.specs.declared.fault.FeedFault.TheVariants.{Empty, Trailing}

-- the txid of the transaction that stands here
unfoldable pub name_at : At → Result (List ℕ × At) TxFault
name_at at = do
  tx ← tx_at at
  Ok (txid_of tx.0, tx.1)

-- the txids of so many transactions, and then nothing
unfoldable pub names_at : ℕ → ℕ → At → Result (List (List ℕ)) FeedFault
names_at height count at = do
  read ← fault_as (tx_fault height) (many_at name_at count at)
  if length read.1.rest == 0 then Ok read.0 else Err (Trailing height)

-- the txids of the transactions after their count, of which there is one at least
unfoldable pub counted_names_at : ℕ → At → Result (List (List ℕ)) FeedFault
counted_names_at height at = do
  count ← fault_as (tx_fault height) (cut (compact_at at))
  if count.0 == 0 then Err (Empty height) else names_at height count.0 count.1

-- the transactions that were read, and none where none were
abbrev pub in_read : Result (List Transaction) FeedFault → List Transaction
in_read (Ok found) = found
in_read (Err fault) = []

-- the transactions that the bytes of a block at this height hold after their header
unfoldable pub held_txs : ℕ → List ℕ → List Transaction
held_txs height body = in_read (counted_txs_at height (after 80 (record { rest = body; place = 0 })))

-- the block of this height and hash, of which these are the bytes
abbrev pub held_block : ℕ → List ℕ → List ℕ → ChainBlock
held_block height hash body = record { height = height; hash = hash; txs = held_txs height body }

-- The bytes are a block's: a header, and one transaction at least behind it; these are the transactions' txids.
pub record IsHeld (height : ℕ) (body : List ℕ) (txids : List (List ℕ)) : Type 0 where
  pub txids_are : txids ≡ map txid_of (held_txs height body)
  pub some : 0 < length (held_txs height body)
  pub long : 80 ≤ length body
