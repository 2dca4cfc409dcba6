use Rattle.wide_search.proofs.TryStepLaws.{all_made, appended, after_done, after_pieces, walk_pieces}
use Rattle.wide_search.proofs.laws.wide_tries_add_up.Goals as goal

pub returns : goal.returns
returns c = record { anywhere = after_pieces; start = walk_pieces; done = after_done; made = all_made; appends = appended }
