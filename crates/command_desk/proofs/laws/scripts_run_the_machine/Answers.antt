use Rattle.command_desk.proofs.CallLaws.{are_calls}
use Rattle.command_desk.proofs.laws.scripts_run_the_machine.Goals as goal

pub returns : goal.returns
returns c = are_calls
