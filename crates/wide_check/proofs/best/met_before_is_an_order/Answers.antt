use Rattle.wide_check.proofs.MetOrderLaws.{met_irreflexive, met_means, met_total, met_transitive}
use Rattle.wide_check.proofs.best.met_before_is_an_order.Goals as goal

pub returns : goal.returns
returns c = record { irreflexive = met_irreflexive; transitive = met_transitive; total = met_total; test = met_means }
