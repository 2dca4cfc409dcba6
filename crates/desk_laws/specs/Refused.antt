-- Where the blocks of bytes end with a fault.
use Rattle.std.specs.Prelude.{ℕ, List, None, drop}
use Rattle.block_feed.specs.Block.{ChainBlock}
use Rattle.block_feed.specs.Faults.{IsFeedFault}
use Rattle.block_feed.specs.Feed.{FeedState}
use Rattle.block_feed.specs.declared.fault.FeedFault.{FeedFault}
use Rattle.fund_files.specs.Chain.{tip_behind}
use Rattle.fund_files.specs.declared.chain.Tip.{Tip}
use Rattle.desk_machine.specs.Records.{BeginsWith}

-- a feed behind a block of this height and hash, at this place of its file
abbrev pub standing : Tip → ℕ → FeedState
standing tip place = record { hash = tip.hash; height = tip.height; place = place; fault = None; hasher = None; digest = None }

-- The bytes, a rest of the file, begin with the records of these blocks, the first linked to this tip. At the place behind them
-- the file has this fault for what is linked to the last of them.
pub record IsRefusedBehind (file : List ℕ) (tip : Tip) (blocks : List ChainBlock) (bytes : List ℕ) (fault : FeedFault) : Type 0 where
  pub place : ℕ
  pub begins : BeginsWith tip.hash tip.height blocks bytes (drop place file)
  pub there : IsFeedFault file (standing (tip_behind tip blocks) place) fault
