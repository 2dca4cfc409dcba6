use Rattle.fund_plan.proofs.WorthLaws.{change_worth_it}
use Rattle.fund_plan.proofs.laws.change_is_worth_making.Goals as goal

pub returns : goal.returns
returns c = change_worth_it
