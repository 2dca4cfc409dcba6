use Rattle.wide_search.proofs.BoundLaws.{few_tries_made, walk_ends, walk_few, walk_few_made}
use Rattle.wide_search.proofs.laws.wide_walks_are_bounded.Goals as goal

pub returns : goal.returns
returns c = record { tokens = walk_few; made = walk_few_made; tries = few_tries_made; ends = walk_ends }
