-- What a status tells of failures.
use Rattle.std.specs.Prelude.{◌≡◌, ◌≢◌}
use Rattle.fund_shelf.specs.Causes.{ShelfView, SinkView}
use Rattle.fund_outside.specs.Kept.{KeeperView}
use Rattle.command_end.specs.Printed.{TellsWhole, TookAll}
use Rattle.command_end.specs.declared.status.Status.{Status}
use Rattle.command_end.specs.declared.status.Status.TheVariants as statuses

-- A failed read, write of the log or keeper is told as that, and as nothing else. An output that failed or found no memory is
-- never told as success.
pub record TellsEachFailure (shelf shelf' : ShelfView) (sink sink' : SinkView) (keeper keeper' : KeeperView) (status : Status) : Type 0 where
  -- A read that failed is told as that.
  pub all_read : status ≢ statuses.ReadFault → shelf'.reads ≡ shelf.reads
  -- So is a write that failed.
  pub all_written : status ≢ statuses.WriteFault → shelf'.writes ≡ shelf.writes
  -- An output that failed or found no memory is never told as success.
  pub all_put : TellsWhole status → TookAll sink sink'
  -- A failure of the keeper is told as that.
  pub unfailed : status ≢ statuses.KeepFault → keeper'.faults ≡ keeper.faults
