-- The keeper in memory whose failures are told beforehand.
use Rattle.std.specs.Prelude.{ℕ, length}
use Rattle.fund_shelf.specs.Failures.{FailurePlan}
use Rattle.fund_outside.specs.Jobs.{job_of}
use Rattle.fund_outside.specs.Kept.{KeeperView}
use Rattle.fund_outside.specs.declared.mem_keeper.MemKeeper.{MemKeeper}

-- its jobs, and how often it failed
abbrev pub view_of : MemKeeper → KeeperView
view_of keeper = record { jobs = job_of keeper.jobs.items; faults = keeper.faults }

-- which of its calls of each method are to fail
abbrev pub load_plan : MemKeeper → FailurePlan
load_plan keeper = keeper.loads

abbrev pub part_plan : MemKeeper → FailurePlan
part_plan keeper = keeper.parts

abbrev pub save_plan : MemKeeper → FailurePlan
save_plan keeper = keeper.saves

-- for how many jobs it holds texts and parts
abbrev pub held : MemKeeper → ℕ
held keeper = length keeper.jobs.items
