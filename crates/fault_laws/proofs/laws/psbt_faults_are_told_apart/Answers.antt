use Rattle.fault_laws.proofs.OtherFaults.{psbt_apart}
use Rattle.fault_laws.proofs.laws.psbt_faults_are_told_apart.Goals as goal

pub returns : goal.returns
returns c = psbt_apart
