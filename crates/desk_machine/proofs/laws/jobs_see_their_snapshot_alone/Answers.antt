use Rattle.desk_machine.proofs.SnapshotLaws.{alike_through, alone_through}
use Rattle.desk_machine.proofs.laws.jobs_see_their_snapshot_alone.Goals as goal

pub returns-clause-alone : goal.returns-clause-alone
returns-clause-alone c = alone_through

pub returns-clause-alike : goal.returns-clause-alike
returns-clause-alike c = alike_through
