use Rattle.fund_steps.proofs.FaultLaws.{fault_found, none_found}
use Rattle.fund_steps.proofs.laws.faults_are_found.Goals as goal

pub returns-clause-fault : goal.returns-clause-fault
returns-clause-fault c = fault_found

pub returns-clause-none : goal.returns-clause-none
returns-clause-none c = none_found
