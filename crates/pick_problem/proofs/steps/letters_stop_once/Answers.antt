use Rattle.pick_problem.proofs.StepLaws.{one_stop, taken_goes_on}
use Rattle.pick_problem.proofs.steps.letters_stop_once.Goals as goal

pub returns : goal.returns
returns c = record { one = one_stop; taken = taken_goes_on }
