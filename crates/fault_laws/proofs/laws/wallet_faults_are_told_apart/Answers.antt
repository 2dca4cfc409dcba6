use Rattle.fault_laws.proofs.FileFaults.{wallet_apart}
use Rattle.fault_laws.proofs.laws.wallet_faults_are_told_apart.Goals as goal

pub returns : goal.returns
returns c = wallet_apart
