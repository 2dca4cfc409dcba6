use Rattle.search_run.specs.Step.{AreSteps}
use Rattle.rows_searches.proofs.steps.steps_in.Given as goal

abbrev pub invariant-loop-text : goal.invariant-loop-text
invariant-loop-text l = AreSteps l.steps.items
