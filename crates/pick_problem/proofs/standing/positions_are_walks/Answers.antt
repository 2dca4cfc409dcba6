use Rattle.pick_problem.proofs.GraftLaws.{position_at, walk_at_position}
use Rattle.pick_problem.proofs.standing.positions_are_walks.Goals as goal

pub returns : goal.returns
returns c = record { walk = walk_at_position; position = position_at }
