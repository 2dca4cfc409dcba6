-- Reading the record at a place, with the first fault in the stated order.
use Rattle.std.specs.Prelude.{ℕ, ◌+◌, ◌==◌, Bool, not, ◌&&◌, ◌||◌, List, length, map, take, drop, nat_lt, bytes_eq, Option, Some, None, Result, Ok, Err, if◌then◌else◌}
use Rattle.std.specs.Int.{w32, from_le_bytes}
use Rattle.std.specs.List.{list_all}
use Rattle.fund_shelf.specs.declared.shelf.Fault.{Fault}
use Rattle.fund_shelf.specs.declared.shelf.Fault.TheVariants as shelf
use Rattle.fund_base.specs.Cursor.{At, take_at, compact_at}
use Rattle.fund_base.specs.Parsing.{◌>>=◌, fault_as, many_at}
use Rattle.tx_codec.specs.declared.fault.TxFault.{TxFault}
use Rattle.tx_codec.specs.declared.fault.TxFault.TheVariants as txs
use Rattle.tx_codec.specs.Reading.{cut, tx_at}
use Rattle.tx_codec.specs.Transaction.{Transaction}
use Rattle.tx_codec.specs.Txid.{txid_of}
use Rattle.block_feed.specs.Merkle.{double_sha256, merkle_root, is_mutated}
use Rattle.block_feed.specs.Block.{ChainBlock, previous_of, root_of, magic}
use Rattle.block_feed.specs.declared.fault.FeedFault.{FeedFault}
use Rattle.block_feed.specs.declared.fault.FeedFault.TheVariants.{Magic, Length, Tx, Merkle, Mutated, NotLinked, Trailing, Empty, Read, Limit, Memory}

-- a shelf's fault, as the feed tells it
abbrev pub read_fault : Fault → FeedFault
read_fault shelf.Failed = Read
read_fault shelf.Memory = Memory

-- a transaction's fault, as the feed tells it of the block at this height
abbrev pub tx_fault : ℕ → TxFault → FeedFault
tx_fault height txs.Memory = Memory
tx_fault height fault = Tx height fault

-- the fault of bytes that are not there: beyond the limit of the file it is that of the limit
abbrev pub cut_off : Bool → FeedFault → FeedFault
cut_off longer fault = if longer then Limit else fault

-- what stands behind the magic
unfoldable pub magic_at : Bool → ℕ → List ℕ → Result (List ℕ) FeedFault
magic_at longer place rest =
    if nat_lt (length rest) 4 then Err (if longer && bytes_eq rest (take (length rest) magic) then Limit else Magic place)
    else if bytes_eq (take 4 rest) magic then Ok (drop 4 rest) else Err (Magic place)

-- so many bytes of the rest; a size out of its range is refused before they are needed
unfoldable pub sized_at : Bool → ℕ → ℕ → List ℕ → Result (List ℕ) FeedFault
sized_at longer place size rest =
    if nat_lt size 81 || nat_lt 4_000_000 size then Err (Length place)
    else if nat_lt (length rest) size then Err (cut_off longer (Length place))
    else Ok (take size rest)

-- the bytes of the block whose length stands here
unfoldable pub body_at : Bool → ℕ → List ℕ → Result (List ℕ) FeedFault
body_at longer place rest =
    if nat_lt (length rest) 4 then Err (cut_off longer (Length place))
    else sized_at longer place (from_le_bytes w32 (take 4 rest)) (drop 4 rest)

-- the length that stands behind the magic, in its range
abbrev pub length_at : Bool → ℕ → List ℕ → Result ℕ FeedFault
length_at longer place behind =
    if nat_lt (length behind) 4 then Err (cut_off longer (Length place))
    else if nat_lt (from_le_bytes w32 (take 4 behind)) 81 || nat_lt 4_000_000 (from_le_bytes w32 (take 4 behind)) then Err (Length place)
    else Ok (from_le_bytes w32 (take 4 behind))

-- The length of the block of a record that begins with these bytes, which are its first eight or all that there are.
unfoldable pub size_at : Bool → ℕ → List ℕ → Result ℕ FeedFault
size_at longer place head = magic_at longer place head >>= length_at longer (place + 4)

-- so many bytes behind the first eight of the record at this place
abbrev pub filled_at : Bool → ℕ → List ℕ → ℕ → Result (Option (List ℕ)) FeedFault
filled_at longer place behind size = if nat_lt (length behind) size then Err (cut_off longer (Length (place + 4))) else Ok (Some (take size behind))

-- what is there where the first eight bytes, or all that there are, are zero: the end, or no record
abbrev pub ended_at : Bool → ℕ → List ℕ → Result (Option (List ℕ)) FeedFault
ended_at longer place rest = if list_all (λ b. b == 0) rest then (if longer then Err Limit else Ok None) else Err (Magic place)

-- the bytes of the block of the record at this place, and none where nothing or zero bytes alone follow
unfoldable pub record_at : Bool → ℕ → List ℕ → Result (Option (List ℕ)) FeedFault
record_at longer place rest =
    if list_all (λ b. b == 0) rest then (if longer then Err Limit else Ok None)
    else do
      after ← magic_at longer place rest
      body ← body_at longer (place + 4) after
      Ok (Some body)

-- the block at this height of a header and these transactions, whose Merkle root the header carries
unfoldable pub sealed_at : ℕ → List ℕ → List Transaction → Result ChainBlock FeedFault
sealed_at height header found =
    if not (bytes_eq (root_of header) (merkle_root (map txid_of found))) then Err (Merkle height)
    else if is_mutated (map txid_of found) then Err (Mutated height)
    else Ok (record { height = height; hash = double_sha256 header; txs = found })

-- so many transactions, and then nothing
unfoldable pub txs_at : ℕ → ℕ → At → Result (List Transaction) FeedFault
txs_at height count at = do
  read ← fault_as (tx_fault height) (many_at tx_at count at)
  if length read.1.rest == 0 then Ok read.0 else Err (Trailing height)

-- the transactions behind their count, of which there is one at least
unfoldable pub counted_txs_at : ℕ → At → Result (List Transaction) FeedFault
counted_txs_at height at = do
  count ← fault_as (tx_fault height) (cut (compact_at at))
  if count.0 == 0 then Err (Empty height) else txs_at height count.0 count.1

-- the block at this height behind one of this hash
unfoldable pub block_at : List ℕ → ℕ → At → Result ChainBlock FeedFault
block_at previous height at = do
  header ← fault_as (tx_fault height) (cut (take_at 80 at))
  if not (bytes_eq (previous_of header.0) previous) then Err (NotLinked previous (previous_of header.0)) else do
    found ← counted_txs_at height header.1
    sealed_at height header.0 found
