-- The blocks of bytes that are read one by one, up to the first that is refused.
use Rattle.std.specs.Prelude.{ℕ, zero, suc, ◌≡◌, List, [], ◌∷◌, length, nat_lt, take, Option, Some, None, Result, Ok, Err}
use Rattle.block_feed.specs.Block.{Begins, ChainBlock}
use Rattle.block_feed.specs.BlockFile.{IsTail}
use Rattle.block_feed.specs.Feed.{most, next_in}
use Rattle.block_feed.specs.declared.fault.FeedFault.{FeedFault}

-- the blocks that stand before the first fault, and that fault, where there is one
pub record Records : Type 0 where
  pub blocks : List ChainBlock
  pub fault : Option FeedFault

-- a block before these
abbrev pub behind_block : ChainBlock → Records → Records
behind_block b r = record { blocks = b ∷ r.blocks; fault = r.fault }

-- by what stands at a place: a fault, the end, or a block and those behind it
abbrev pub by_next : (ChainBlock → ℕ → Records) → Result (Option (ChainBlock × ℕ)) FeedFault → Records
by_next rest (Err fault) = record { blocks = []; fault = Some fault }
by_next rest (Ok None) = record { blocks = []; fault = None }
by_next rest (Ok (Some read)) = behind_block read.0 (rest read.0 read.1)

-- Those from a place on, each behind the one before it. So many records are read at most.
unfoldable pub records_from : ℕ → (file hash : List ℕ) → (height place : ℕ) → Records
records_from zero file hash height place = record { blocks = []; fault = None }
records_from (suc n) file hash height place =
    by_next (λ block behind. records_from n file block.hash block.height behind) (next_in (nat_lt most (length file)) (take most file) hash height place)

-- Those of a block file behind one of this hash and height. A record has a byte at least, so no more are read than the
-- file has bytes.
abbrev pub records_of : (file hash : List ℕ) → ℕ → Records
records_of file hash height = records_from (suc (length file)) file hash height 0

-- The bytes are the records of these blocks in order, each linked to the one before it, the first to this hash and
-- height, and then these other bytes.
abbrev pub BeginsWith : List ℕ → ℕ → List ChainBlock → (bytes rest : List ℕ) → Type 0
BeginsWith hash height [] bytes rest = bytes ≡ rest
BeginsWith hash height (b ∷ blocks) bytes rest = (behind : List ℕ) × Begins hash height b bytes behind × BeginsWith b.hash b.height blocks behind rest

-- where nothing is refused, nothing or zero bytes alone are left
abbrev pub EndsBehind : Option FeedFault → List ℕ → Type 0
EndsBehind None rest = IsTail rest
EndsBehind (Some fault) rest = Unit {0}
