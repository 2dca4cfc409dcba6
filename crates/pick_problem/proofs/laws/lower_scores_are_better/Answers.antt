use Rattle.pick_problem.proofs.ScoreLaws.{below_with_change, below_without_change}
use Rattle.pick_problem.proofs.laws.lower_scores_are_better.Goals as goal

pub returns-clause-changeless : goal.returns-clause-changeless
returns-clause-changeless c = below_without_change

pub returns-clause-lean : goal.returns-clause-lean
returns-clause-lean c = below_with_change
