use Rattle.std.proofs.Common.{◌≡◌, ◌++◌, drop}
use Rattle.search_run.specs.Run.{later_draws}
use Rattle.search_run.proofs.column_results.add_draws.Given as goal

abbrev pub invariant-loop-step : goal.invariant-loop-step
invariant-loop-step l = l.hand.items ++ later_draws l.seed (drop l.step-index l.steps) ≡ l.fn.hand.items ++ later_draws l.seed l.steps
