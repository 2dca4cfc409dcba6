use Rattle.wide_check.proofs.WideStepLaws.{one_stop, taken_goes_on}
use Rattle.wide_check.proofs.trees.wide_letters_stop_once.Goals as goal

pub returns : goal.returns
returns c = record { one = one_stop; taken = taken_goes_on }
