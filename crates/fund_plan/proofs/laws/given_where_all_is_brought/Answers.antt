use Rattle.fund_plan.proofs.GivenLaws.{given_where}
use Rattle.fund_plan.proofs.laws.given_where_all_is_brought.Goals as goal

pub returns : goal.returns
returns c = given_where
