use Rattle.fund_plan.proofs.WorthLaws.{signals_where}
use Rattle.fund_plan.proofs.laws.payments_signal_as_asked.Goals as goal

pub returns : goal.returns
returns c = signals_where
