use Rattle.fund_plan.proofs.GoingLaws.{cut_stays}
use Rattle.desk_machine.proofs.RunLaws.{cut_on}
use Rattle.desk_machine.proofs.laws.jobs_go_on_from_the_tries_made.Goals as goal

pub returns-clause-taken : goal.returns-clause-taken
returns-clause-taken c = λ old new n f is lag k. record { name = lag.name k; state = cut_stays old.state new.state f n is lag.state k; answer = lag.answer k }

pub returns-clause-goes : goal.returns-clause-goes
returns-clause-goes c = λ old new n none lag. cut_on old.state new.state n none lag.state
