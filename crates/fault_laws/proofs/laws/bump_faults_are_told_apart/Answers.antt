use Rattle.fault_laws.proofs.BumpFaults.{bump_apart}
use Rattle.fault_laws.proofs.laws.bump_faults_are_told_apart.Goals as goal

pub returns : goal.returns
returns c = bump_apart
