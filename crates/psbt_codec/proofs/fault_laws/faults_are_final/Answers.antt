use Rattle.psbt_codec.proofs.FinalFaults.{cut_off, begins_none, final}
use Rattle.psbt_codec.proofs.fault_laws.faults_are_final.Goals as goal

pub returns-clause-part : goal.returns-clause-part
returns-clause-part c = λ bytes part. cut_off bytes part

pub returns-clause-none : goal.returns-clause-none
returns-clause-none c = λ bytes fault e uncut. begins_none bytes fault e uncut

pub returns-clause-same : goal.returns-clause-same
returns-clause-same c = λ bytes more fault e uncut. final bytes more fault e uncut
