-- Parts of a file that is read piece by piece.
use Rattle.std.specs.Prelude.{ℕ, ◌≡◌, ◌+◌, ◌-◌, ◌≤◌, ◌<◌, ◌++◌, List, length, map, take, vec_len}
use Rattle.fund_base.specs.Cursor.{IsBytes}
use Rattle.fund_base.specs.Writer.{Feeds}
use Rattle.block_feed.specs.Block.{ChainBlock, IsLinked, height_after}
use Rattle.block_feed.specs.Digest.{HasTaken}
use Rattle.block_feed.specs.Feed.{FeedState}
use Rattle.block_feed.specs.Names.{held_block, held_txs}
use Rattle.block_feed.specs.declared.reading.BlockNames.{BlockNames}
use Rattle.block_feed.specs.declared.records.Record.{Record}
use Rattle.tx_codec.specs.Txid.{txid_of}

-- the first bytes of these, one at least where there are any
pub record IsFirstPart (bytes piece : List ℕ) : Type 0 where
  pub count : ℕ
  pub some : 0 < count
  pub is : piece ≡ take count bytes

-- A record that stands at this place of a file: its bytes are the next ones there, where these are told, and it lies
-- within what is read of a file.
pub record StandsAt (told : Type 0) (rest : List ℕ) (place : ℕ) (found : Record) : Type 0 where
  pub bytes : told → found.head.items ++ found.body.items ≡ take (8 + length found.body.items) rest
  pub fits : IsBytes found.head.items
  pub least : 81 ≤ vec_len found.body
  pub within : place + 8 + vec_len found.body ≤ 1_073_741_824

-- the block of these names and of the bytes of this record
abbrev pub block_found : BlockNames × Record → ChainBlock
block_found found = held_block found.0.height found.0.hash found.1.body.items

-- A block of a record that stands at this place, behind a block of this hash and height.
pub record IsNextAt (told : Type 0) (rest hash : List ℕ) (height place : ℕ) (names : BlockNames) (found : Record) : Type 0 where
  pub stands : StandsAt told rest place found
  pub fits : IsBytes found.body.items
  pub height_is : names.height ≡ height_after height
  pub linked : IsLinked hash (height_after height) (block_found (names, found))
  pub txids : names.txids.items ≡ map txid_of (held_txs names.height found.body.items)

-- The feed has moved past a block, which is linked to the one before, and has taken the bytes between its places.
pub record IsPast (told : Type 0) (rest : List ℕ) (old new : FeedState) (block : ChainBlock) : Type 0 where
  pub linked : IsLinked old.hash (height_after old.height) block
  pub up : old.place < new.place
  pub within : new.place ≤ 1_073_741_824
  pub bytes : told → IsBytes (take (new.place - old.place) rest)
  pub taken : told → Feeds HasTaken old.hasher new.hasher (take (new.place - old.place) rest)

-- the bytes of a record's block
abbrev pub body_in : Record → List ℕ
body_in found = found.body.items

-- a block whose record stands at this place, and the place behind it
abbrev pub behind_record : ℕ → BlockNames × Record → ChainBlock × ℕ
behind_record place found = (block_found found, place + 8 + length found.1.body.items)
