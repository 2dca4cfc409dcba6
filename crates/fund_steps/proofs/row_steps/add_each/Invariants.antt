use Rattle.std.proofs.Common.{◌≡◌, ◌++◌, take}
use Rattle.std.specs.Prelude.{map}
use Rattle.search_run.specs.Step.{AreSteps}
use Rattle.fund_steps.specs.Searches.{step_with}
use Rattle.fund_steps.proofs.row_steps.add_each.Given as goal

abbrev pub invariant-loop-turn : goal.invariant-loop-turn
invariant-loop-turn l = record {
  made : l.steps.items ≡ l.fn.steps.items ++ map (step_with l.terms l.row.number l.seen.items.value.items l.seen.sizes.value.items) (take l.turn-index l.turns);
  fine : AreSteps l.fn.steps.items → AreSteps l.steps.items;
}
