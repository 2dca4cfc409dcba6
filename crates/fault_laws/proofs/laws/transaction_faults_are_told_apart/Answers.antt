use Rattle.fault_laws.proofs.TxFaults.{tx_apart}
use Rattle.fault_laws.proofs.laws.transaction_faults_are_told_apart.Goals as goal

pub returns : goal.returns
returns c = tx_apart
