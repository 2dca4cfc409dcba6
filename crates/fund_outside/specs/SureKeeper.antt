-- The keeper in memory that doesn't fail.
use Rattle.std.specs.Prelude.{ℕ, length}
use Rattle.fund_outside.specs.Jobs.{job_of}
use Rattle.fund_outside.specs.Kept.{KeeperView}
use Rattle.fund_outside.specs.declared.sure_keeper.SureKeeper.{SureKeeper}

-- its jobs; it never fails
abbrev pub view_of : SureKeeper → KeeperView
view_of keeper = record { jobs = job_of keeper.jobs.items; faults = 0 }

-- for how many jobs it holds texts and parts
abbrev pub held : SureKeeper → ℕ
held keeper = length keeper.jobs.items
