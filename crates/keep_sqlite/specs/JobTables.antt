-- The keeper over the tables of a database.
use Rattle.std.specs.Prelude.{None}
use Rattle.fund_outside.specs.Kept.{KeeperView}
use Rattle.sqlite.specs.Held.{Held}
use Rattle.keep_sqlite.specs.declared.job_tables.JobTables.{JobTables}

-- what it counts; which jobs the tables hold isn't told
abbrev pub view_of : {S : Type 0} → JobTables S → KeeperView
view_of keeper = record { jobs = λ _. None; faults = keeper.faults }

-- the database whose tables hold the jobs
abbrev pub held_by : {S : Type 0} → JobTables S → Held S
held_by keeper = keeper.connection
