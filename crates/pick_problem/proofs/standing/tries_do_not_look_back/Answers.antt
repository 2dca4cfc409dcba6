use Rattle.pick_problem.proofs.GraftLaws.{afresh_goes_on, grafted_goes_on, same_position}
use Rattle.pick_problem.proofs.standing.tries_do_not_look_back.Goals as goal

pub returns : goal.returns
returns c = record { grafted = grafted_goes_on; afresh = afresh_goes_on; position = same_position }
