use Rattle.fund_plan.proofs.GoingLaws.{cut_goes, cut_stays, over_stays, pieces_add, taken_stays}
use Rattle.fund_plan.proofs.laws.plans_go_on.Goals as goal

pub returns-clause-pieces : goal.returns-clause-pieces
returns-clause-pieces c = pieces_add

pub returns-clause-cut : goal.returns-clause-cut
returns-clause-cut c = cut_goes

pub returns-clause-taken : goal.returns-clause-taken
returns-clause-taken c = taken_stays

pub returns-clause-cut_taken : goal.returns-clause-cut_taken
returns-clause-cut_taken c = cut_stays

pub returns-clause-over : goal.returns-clause-over
returns-clause-over c = over_stays
