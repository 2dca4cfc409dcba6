use Rattle.fault_laws.proofs.FileFaults.{request_apart}
use Rattle.fault_laws.proofs.laws.request_faults_are_told_apart.Goals as goal

pub returns : goal.returns
returns c = request_apart
