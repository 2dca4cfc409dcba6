-- Blocks, and how a block file holds them.
use Rattle.std.specs.Prelude.{ℕ, ◌≡◌, ◌+◌, ◌≤◌, ◌<◌, List, [], ◌∷◌, ◌++◌, length, min, map, take, drop, All}
use Rattle.std.specs.Int.{w32, to_le_bytes}
use Rattle.fund_base.specs.CompactSize.{counted}
use Rattle.tx_codec.specs.Transaction.{Transaction}
use Rattle.tx_codec.specs.TransactionText.{text_of, IsTransaction}
use Rattle.tx_codec.specs.Txid.{txid_of}
use Rattle.block_feed.specs.Merkle.{double_sha256, IsRoot, IsMutated}

-- a block at its height, without where it lies in memory
pub record ChainBlock : Type 0 where
  pub height : ℕ
  pub hash : List ℕ
  pub txs : List Transaction

-- A header's 80 bytes are the version, the hash of the block before, the Merkle root, the time, the
-- bits and the nonce (developer reference, 'Block Headers'). The hash of the block before:
abbrev pub previous_of : List ℕ → List ℕ
previous_of header = take 32 (drop 4 header)

-- and the Merkle root
abbrev pub root_of : List ℕ → List ℕ
root_of header = take 32 (drop 36 header)

-- the height of the block behind one of this height; a greater one counts as 4,294,967,294
abbrev pub height_after : ℕ → ℕ
height_after height = min (height + 1) 4_294_967_294

-- The bytes are this block, behind a block of this hash, at this height: a header that names the hash
-- before it, and at least one transaction, with their number; the header carries the Merkle root of
-- the txids, and no level of their tree is mutated.
pub record IsBlock (previous : List ℕ) (height : ℕ) (block : ChainBlock) (bytes : List ℕ) : Type 0 where
  pub header : List ℕ
  pub header_len : length header ≡ 80
  pub text : bytes ≡ header ++ counted text_of block.txs
  pub linked : previous_of header ≡ previous
  pub height_is : block.height ≡ height
  pub hash_is : block.hash ≡ double_sha256 header
  pub each : All IsTransaction block.txs
  pub some : 0 < length block.txs
  pub root : IsRoot (map txid_of block.txs) (root_of header)
  pub single : IsMutated (map txid_of block.txs) → ⊥

-- a block at this height behind one of this hash
pub record IsLinked (previous : List ℕ) (height : ℕ) (block : ChainBlock) : Type 0 where
  pub bytes : List ℕ
  pub is_block : IsBlock previous height block bytes

-- the four bytes before each record of a block file of the main network
abbrev pub magic : List ℕ
magic = 0xf9 ∷ 0xbe ∷ 0xb4 ∷ 0xd9 ∷ []

-- The bytes begin with the record of this block, linked to this hash and height, and the rest stands
-- behind it. A record is the magic, the block's length in four bytes, low byte first, and the block.
pub record Begins (hash : List ℕ) (height : ℕ) (block : ChainBlock) (bytes rest : List ℕ) : Type 0 where
  pub body : List ℕ
  pub is_block : IsBlock hash (height_after height) block body
  pub parts : bytes ≡ magic ++ (to_le_bytes w32 (length body) ++ (body ++ rest))
  pub least : 81 ≤ length body
  pub most : length body ≤ 4_000_000
