-- The blocks of a whole file, or its first fault.
use Rattle.std.specs.Prelude.{ℕ, zero, suc, List, [], ◌∷◌, length, take, nat_lt, Option, Some, None, Result, Ok}
use Rattle.fund_base.specs.Parsing.{◌>>=◌}
use Rattle.block_feed.specs.Block.{ChainBlock}
use Rattle.block_feed.specs.Feed.{most, next_in}
use Rattle.block_feed.specs.declared.fault.FeedFault.{FeedFault}

-- the block that was read, and those behind it; none where the file ends
abbrev pub with_rest : (ChainBlock → ℕ → Result (List ChainBlock) FeedFault) → Option (ChainBlock × ℕ) → Result (List ChainBlock) FeedFault
with_rest rest None = Ok []
with_rest rest (Some read) = rest read.0 read.1 >>= λ blocks. Ok (read.0 ∷ blocks)

-- The blocks from a place on, each behind the one before it, or the first fault. So many records are read at most.
unfoldable pub blocks_from : ℕ → List ℕ → List ℕ → ℕ → ℕ → Result (List ChainBlock) FeedFault
blocks_from zero file hash height place = Ok []
blocks_from (suc n) file hash height place = do
  read ← next_in (nat_lt most (length file)) (take most file) hash height place
  with_rest (λ block behind. blocks_from n file block.hash block.height behind) read

-- The blocks of a file behind one of this hash and height, or the first fault of the file. A record has a byte at
-- least, so no more are read than the file has bytes.
unfoldable pub blocks_of : List ℕ → List ℕ → ℕ → Result (List ChainBlock) FeedFault
blocks_of file hash height = blocks_from (suc (length file)) file hash height 0
