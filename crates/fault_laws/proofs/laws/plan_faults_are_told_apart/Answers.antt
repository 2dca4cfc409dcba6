use Rattle.fault_laws.proofs.OtherFaults.{groups_shown, plan_apart}
use Rattle.fault_laws.proofs.laws.plan_faults_are_told_apart.Goals as goal

pub returns : goal.returns
returns c = record { apart = plan_apart; groups = groups_shown }
