use Rattle.desk_machine.proofs.RunLaws.{moved_plan, spent_none, spent_tries}
use Rattle.desk_machine.proofs.laws.spent_turns_make_no_try.Goals as goal

pub returns-clause-tries : goal.returns-clause-tries
returns-clause-tries c = spent_tries

pub returns-clause-plan : goal.returns-clause-plan
returns-clause-plan c = moved_plan

pub returns-clause-partial : goal.returns-clause-partial
returns-clause-partial c = spent_none
