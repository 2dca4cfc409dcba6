use Rattle.wide_plan.proofs.RowsLaws.{IsOn}
use Rattle.wide_plan.proofs.rows.search_on.Given as goal

abbrev pub invariant-loop-step : goal.invariant-loop-step
invariant-loop-step l = IsOn l.fn.closed.items l.steps l.tries l.step-index l.closed.items l.made
