use Rattle.command_pay.proofs.ReadLaws.{none_failed, one_failed}
use Rattle.command_pay.proofs.laws.failed_reads_are_counted.Goals as goal

pub returns-clause-rose : goal.returns-clause-rose
returns-clause-rose c = λ a files after said log run. one_failed a files after said log run

pub returns-clause-none : goal.returns-clause-none
returns-clause-none c = λ a files after status said log run apart name other. none_failed a files after status said log run apart name other
