use Rattle.wide_check.proofs.MetOrderLaws.{one_best_is}
use Rattle.wide_check.proofs.best.one_wide_best.Goals as goal

pub returns : goal.returns
returns c = one_best_is
