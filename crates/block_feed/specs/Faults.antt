-- What stands in a block file where it is refused, in the words of the file.
use Rattle.std.specs.Prelude.{ℕ, ◌≡◌, ◌≢◌, ◌+◌, ◌^◌, ◌≤◌, ◌<◌, ◌⊎◌, Bool, true, false, List, [], ◌++◌, length, map, take, drop, nat_lt, All, Err}
use Rattle.std.specs.Int.{w32, to_le_bytes}
use Rattle.std.specs.List.{flat_map}
use Rattle.fund_base.specs.CompactSize.{compact, counted}
use Rattle.fund_base.specs.Cursor.{compact_at}
use Rattle.fund_base.specs.declared.cursor.CutFault.{CutFault}
use Rattle.tx_codec.specs.Fault.{cut_fault}
use Rattle.tx_codec.specs.Reading.{tx_at}
use Rattle.tx_codec.specs.Transaction.{Transaction}
use Rattle.tx_codec.specs.TransactionText.{text_of, IsTransaction}
use Rattle.tx_codec.specs.Txid.{txid_of}
use Rattle.tx_codec.specs.declared.fault.TxFault.{TxFault}
use Rattle.block_feed.specs.Block.{magic, previous_of, root_of, height_after}
use Rattle.block_feed.specs.BlockFile.{IsTail}
use Rattle.block_feed.specs.Feed.{FeedState, most}
use Rattle.block_feed.specs.Merkle.{IsRoot, IsMutated}
use Rattle.block_feed.specs.declared.fault.FeedFault.{FeedFault}
use Rattle.block_feed.specs.declared.fault.FeedFault.TheVariants.{Magic, Length, Tx, Merkle, Mutated, NotLinked, Trailing, Empty, Limit}

-- ---- a record that isn't there

-- fewer than four bytes, which are the first of the magic
pub record IsPartOfMagic (bytes : List ℕ) : Type 0 where
  pub few : length bytes < 4
  pub front : bytes ≡ take (length bytes) magic

-- a length of a block, and fewer bytes than it says
pub record IsCutBlock (bytes : List ℕ) : Type 0 where
  pub size : ℕ
  pub behind : List ℕ
  pub parts : bytes ≡ to_le_bytes w32 size ++ behind
  pub least : 81 ≤ size
  pub most : size ≤ 4_000_000
  pub few : length behind < size

-- the length is cut off, or the block is
abbrev pub IsCutOff : List ℕ → Type 0
IsCutOff bytes = (length bytes < 4) ⊎ IsCutBlock bytes

-- a length that no block has
pub record IsNoLength (bytes : List ℕ) : Type 0 where
  pub size : ℕ
  pub behind : List ℕ
  pub parts : bytes ≡ to_le_bytes w32 size ++ behind
  pub small : size < 2 ^ 32
  pub range : (size < 81) ⊎ (4_000_000 < size)

-- neither zero bytes alone, or nothing, nor the magic
pub record LacksMagic (bytes : List ℕ) : Type 0 where
  pub some : IsTail bytes → ⊥
  pub none : (behind : List ℕ) → bytes ≢ magic ++ behind

-- The fault of these bytes, which begin at this place of the file, where a record is to begin. Whether the file is
-- longer than what is read of it decides between a fault and its limit where bytes are missing.
abbrev pub IsRecordFault : Bool → ℕ → FeedFault → List ℕ → Type 0
IsRecordFault longer place (Magic at) bytes = (at ≡ place) × LacksMagic bytes × (longer ≡ true → IsPartOfMagic bytes → ⊥)
IsRecordFault longer place (Length at) bytes = (at ≡ place + 4) × ((behind : List ℕ) × (bytes ≡ magic ++ behind) × (((longer ≡ false) × IsCutOff behind) ⊎ IsNoLength behind))
IsRecordFault longer place Limit bytes = (longer ≡ true) × (IsTail bytes ⊎ (IsPartOfMagic bytes ⊎ ((behind : List ℕ) × (bytes ≡ magic ++ behind) × IsCutOff behind)))
IsRecordFault longer place fault bytes = ⊥

-- ---- a record of bytes that aren't a block

-- The bytes begin with the record of a block of these bytes: the magic, its length, which is one that blocks have, and it.
pub record HoldsRecord (body bytes : List ℕ) : Type 0 where
  pub rest : List ℕ
  pub parts : bytes ≡ magic ++ (to_le_bytes w32 (length body) ++ (body ++ rest))
  pub least : 81 ≤ length body
  pub most : length body ≤ 4_000_000

-- the number of transactions, which stands behind a block's header, isn't read
pub record LacksCount (fault : TxFault) (body : List ℕ) : Type 0 where
  pub cut : CutFault
  pub told : fault ≡ cut_fault cut
  pub refused : compact_at (record { rest = drop 80 body; place = 80 }) ≡ Err cut

-- Behind the header stand a number of transactions and the texts of some of them, fewer than it says; what stands behind
-- these, at its place in the block, isn't read as another.
pub record LacksTx (fault : TxFault) (body : List ℕ) : Type 0 where
  pub count : ℕ
  pub txs : List Transaction
  pub behind : List ℕ
  pub text : drop 80 body ≡ compact count ++ (flat_map text_of txs ++ behind)
  pub each : All IsTransaction txs
  pub small : count < 2 ^ 64
  pub few : length txs < count
  pub refused : tx_at (record { rest = behind; place = 80 + length (compact count ++ flat_map text_of txs) }) ≡ Err fault

-- behind the header stand the number of these transactions, which isn't 0, their texts, and then these bytes
pub record HoldsTxs (txs : List Transaction) (behind body : List ℕ) : Type 0 where
  pub text : drop 80 body ≡ counted text_of txs ++ behind
  pub each : All IsTransaction txs
  pub some : 0 < length txs

-- The fault of a block of these bytes at this height, behind one of this hash. The bytes of a block begin with its
-- header, so that what is said of a header's fields is said of them.
abbrev pub IsBlockFault : List ℕ → ℕ → FeedFault → List ℕ → Type 0
IsBlockFault hash height (NotLinked kept found) body = (kept ≡ hash) × (found ≡ previous_of body) × (found ≢ hash)
IsBlockFault hash height (Tx at fault) body = (at ≡ height) × (previous_of body ≡ hash) × (LacksCount fault body ⊎ LacksTx fault body)
IsBlockFault hash height (Empty at) body = (at ≡ height) × (previous_of body ≡ hash) × ((behind : List ℕ) × (drop 80 body ≡ compact 0 ++ behind))
IsBlockFault hash height (Trailing at) body = (at ≡ height) × (previous_of body ≡ hash) × ((txs : List Transaction) × (behind : List ℕ) × HoldsTxs txs behind body × (behind ≢ []))
IsBlockFault hash height (Merkle at) body = (at ≡ height) × (previous_of body ≡ hash) × ((txs : List Transaction) × HoldsTxs txs [] body × (IsRoot (map txid_of txs) (root_of body) → ⊥))
IsBlockFault hash height (Mutated at) body = (at ≡ height) × (previous_of body ≡ hash) × ((txs : List Transaction) × HoldsTxs txs [] body × IsRoot (map txid_of txs) (root_of body) × IsMutated (map txid_of txs))
IsBlockFault hash height fault body = ⊥

-- ---- both

-- The fault of a file where the feed stands, by what is read of it from there on: no block is there, or one whose bytes
-- are at fault.
abbrev pub IsFeedFault : List ℕ → FeedState → FeedFault → Type 0
IsFeedFault file state fault =
    let bytes = drop state.place (take most file) in
    IsRecordFault (nat_lt most (length file)) state.place fault bytes ⊎ ((body : List ℕ) × HoldsRecord body bytes × IsBlockFault state.hash (height_after state.height) fault body)
