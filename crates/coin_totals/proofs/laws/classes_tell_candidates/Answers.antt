use Rattle.coin_totals.proofs.ClassLaws.{tells_candidates}
use Rattle.coin_totals.proofs.laws.classes_tell_candidates.Goals as goal

pub returns : goal.returns
returns c = tells_candidates
