use Rattle.desk_machine.proofs.RunLaws.{finished_again, finished_tries}
use Rattle.desk_machine.proofs.laws.finished_jobs_reply_again.Goals as goal

pub returns-clause-reply : goal.returns-clause-reply
returns-clause-reply c = finished_again

pub returns-clause-tries : goal.returns-clause-tries
returns-clause-tries c = finished_tries
