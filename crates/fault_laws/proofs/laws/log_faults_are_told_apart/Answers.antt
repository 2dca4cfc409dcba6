use Rattle.fault_laws.proofs.OtherFaults.{log_apart}
use Rattle.fault_laws.proofs.laws.log_faults_are_told_apart.Goals as goal

pub returns : goal.returns
returns c = log_apart
