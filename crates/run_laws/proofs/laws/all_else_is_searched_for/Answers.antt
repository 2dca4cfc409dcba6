use Rattle.run_laws.proofs.SearchedLaws.{searched_else}
use Rattle.run_laws.proofs.laws.all_else_is_searched_for.Goals as goal

pub returns : goal.returns
returns c = searched_else
