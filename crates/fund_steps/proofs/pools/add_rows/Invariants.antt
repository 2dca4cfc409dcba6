use Rattle.std.proofs.Common.{◌≡◌, ◌++◌, take}
use Rattle.std.specs.List.{flat_map}
use Rattle.search_run.specs.Step.{AreSteps}
use Rattle.std.specs.Prelude.{All}
use Rattle.fund_steps.proofs.RowLaws.{KeepsFew}
use Rattle.fund_steps.specs.Making.{steps_for}
use Rattle.fund_steps.proofs.pools.add_rows.Given as goal

abbrev pub invariant-loop-row : goal.invariant-loop-row
invariant-loop-row l = record {
  few : All (KeepsFew l.request l.coins) (take l.row-index l.rows);
  made : l.steps.items ≡ l.fn.steps.items ++ flat_map (steps_for l.request l.load l.coins l.turns) (take l.row-index l.rows);
  fine : AreSteps l.fn.steps.items → AreSteps l.steps.items;
}
