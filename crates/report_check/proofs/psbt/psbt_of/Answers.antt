use Rattle.report_check.proofs.PsbtLaws.{refused_by}
use Rattle.report_check.proofs.psbt.psbt_of.Goals as goal

pub returns-in-Ok-clause-found : goal.returns-in-Ok-clause-found
returns-in-Ok-clause-found c = c.in-Ok.ensures.found.0

pub returns-in-Err-clause-fault : goal.returns-in-Err-clause-fault
returns-in-Err-clause-fault c = refused_by c.args.text.now c.in-Err.fault c.refusal.result c.refusal.ensures.memory c.refusal.ensures.fault c.in-Err.ensures.fault
