use Rattle.pick_problem.proofs.BoundLaws.{few_tries_made, start_few, tokens_few, walk_ends}
use Rattle.pick_problem.proofs.closing.walks_are_bounded.Goals as goal

pub returns : goal.returns
returns c = record { tokens = start_few; more = tokens_few; tries = few_tries_made; ends = walk_ends }
