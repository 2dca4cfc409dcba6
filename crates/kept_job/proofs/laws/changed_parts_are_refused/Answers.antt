use Rattle.kept_job.proofs.FaultLaws.{gone_not_refused, one_job_fault}
use Rattle.kept_job.specs.declared.fault.KeptFault.TheVariants as faults
use Rattle.kept_job.proofs.laws.changed_parts_are_refused.Goals as goal

pub returns-clause-refused : goal.returns-clause-refused
returns-clause-refused c = λ p now job m kept given h. h

pub returns-clause-alone : goal.returns-clause-alone
returns-clause-alone c = λ p now job m kept given e h own g. one_job_fault p now job m e (faults.Parts kept given) own tt g h

pub returns-clause-untried : goal.returns-clause-untried
returns-clause-untried c = λ p now job m kept given s o h g. gone_not_refused p now job m s o (faults.Parts kept given) tt g h
