use Rattle.fund_plan.proofs.FigureLaws.{figures_agree}
use Rattle.fund_plan.proofs.laws.figures_add_up.Goals as goal

pub returns : goal.returns
returns c = figures_agree
