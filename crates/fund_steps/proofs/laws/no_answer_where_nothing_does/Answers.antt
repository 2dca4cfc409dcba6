use Rattle.fund_steps.proofs.ReachLaws.{none_where}
use Rattle.fund_steps.proofs.laws.no_answer_where_nothing_does.Goals as goal

pub returns : goal.returns
returns c = λ b some searched fine. none_where b b.request.seed some searched fine
