use Rattle.pick_problem.proofs.BoundLaws.{start_position, tries_position}
use Rattle.pick_problem.proofs.closing.positions_stay.Goals as goal

pub returns : goal.returns
returns c = record { start = start_position; tries = tries_position }
