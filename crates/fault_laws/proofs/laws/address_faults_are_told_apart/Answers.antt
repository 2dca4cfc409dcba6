use Rattle.fault_laws.proofs.OtherFaults.{address_apart}
use Rattle.fault_laws.proofs.laws.address_faults_are_told_apart.Goals as goal

pub returns : goal.returns
returns c = address_apart
