use Rattle.std.proofs.Common.{◌≡◌, length}
use Rattle.fund_outside.specs.Jobs.{job_of}
use Rattle.fund_outside.proofs.jobs.find.Given as goal

abbrev pub invariant-finding : goal.invariant-finding
invariant-finding l = job_of l.rest l.name ≡ job_of l.jobs l.name

abbrev pub decreases-finding : goal.decreases-finding
decreases-finding l = length l.rest
