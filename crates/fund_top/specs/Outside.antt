-- The outside of a run: the files, the output and the jobs that it is lent.
use Rattle.fund_shelf.specs.Causes.{ShelfView, SinkView}
use Rattle.fund_outside.specs.Kept.{KeeperView}

-- Whether the files, the output and the jobs tell their content; and the shelf, the sink and the keeper, as they are before the
-- run and as they are after it: a name with a prime is after it.
pub record Outside : Type 1 where
  pub tells_files : Type 0
  pub tells_output : Type 0
  pub tells_jobs : Type 0
  pub shelf : ShelfView
  pub shelf' : ShelfView
  pub sink : SinkView
  pub sink' : SinkView
  pub keeper : KeeperView
  pub keeper' : KeeperView

-- the outside of these
abbrev pub outside : Type 0 → Type 0 → Type 0 → ShelfView → ShelfView → SinkView → SinkView → KeeperView → KeeperView → Outside
outside tells_files tells_output tells_jobs shelf shelf' sink sink' keeper keeper' =
    record { tells_files = tells_files; tells_output = tells_output; tells_jobs = tells_jobs; shelf = shelf; shelf' = shelf'; sink = sink; sink' = sink'; keeper = keeper; keeper' = keeper' }

-- the outside of these, which tell all
abbrev pub in_memory : ShelfView → ShelfView → SinkView → SinkView → KeeperView → KeeperView → Outside
in_memory shelf shelf' sink sink' keeper keeper' = outside (Unit {0}) (Unit {0}) (Unit {0}) shelf shelf' sink sink' keeper keeper'
