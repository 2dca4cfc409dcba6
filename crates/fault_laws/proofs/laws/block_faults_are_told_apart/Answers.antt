use Rattle.fault_laws.proofs.FileFaults.{feed_apart}
use Rattle.fault_laws.proofs.laws.block_faults_are_told_apart.Goals as goal

pub returns : goal.returns
returns c = feed_apart
