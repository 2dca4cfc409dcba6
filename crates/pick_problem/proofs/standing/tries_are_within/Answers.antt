use Rattle.pick_problem.proofs.GraftLaws.{as_many, tries_within}
use Rattle.pick_problem.proofs.standing.tries_are_within.Goals as goal

pub returns : goal.returns
returns c = record { least = λ p w n. (tries_within p w n).0; most = λ p w n. (tries_within p w n).1; as_many = as_many }
