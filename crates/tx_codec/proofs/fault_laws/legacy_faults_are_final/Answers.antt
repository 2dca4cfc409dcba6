use Rattle.tx_codec.specs.Reading.{legacy_tx_at}
use Rattle.tx_codec.specs.TransactionText.{IsLegacy}
use Rattle.tx_codec.proofs.Laws.{legacy_tx_reads}
use Rattle.tx_codec.proofs.FinalFaults.{legacy_tx_longer, cut_off_by, none_by, final_by}
use Rattle.tx_codec.proofs.fault_laws.legacy_faults_are_final.Goals as goal

pub returns-clause-part : goal.returns-clause-part
returns-clause-part c = λ bytes part. cut_off_by legacy_tx_at IsLegacy legacy_tx_reads legacy_tx_longer bytes part

pub returns-clause-none : goal.returns-clause-none
returns-clause-none c = λ bytes fault e whole. none_by legacy_tx_at IsLegacy legacy_tx_reads legacy_tx_longer bytes fault e whole

pub returns-clause-same : goal.returns-clause-same
returns-clause-same c = λ bytes more fault e whole. final_by legacy_tx_at legacy_tx_longer bytes more fault e whole
