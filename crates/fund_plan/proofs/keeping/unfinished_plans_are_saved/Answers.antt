use Rattle.fund_plan.proofs.SavedLaws.{saved_where_open}
use Rattle.fund_plan.proofs.keeping.unfinished_plans_are_saved.Goals as goal

pub returns : goal.returns
returns c = saved_where_open
