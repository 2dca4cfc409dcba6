use Rattle.command_work.proofs.OutcomeLaws.{files_due}
use Rattle.command_work.proofs.laws.workloads_run_as_files.Goals as goal

pub returns : goal.returns
returns c = files_due
