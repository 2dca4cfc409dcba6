use Rattle.desk_machine.proofs.RunLaws.{all_of_run}
use Rattle.desk_machine.proofs.laws.turns_are_the_run.Goals as goal

pub returns : goal.returns
returns c = all_of_run
