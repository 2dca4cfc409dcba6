use Rattle.std.proofs.Common.{◌≡◌, drop}
use Rattle.std.specs.Prelude.{find, not}
use Rattle.indexmap.specs.IndexSet.{contains}
use Rattle.fund_base.specs.Outpoints.{same_outpoint}
use Rattle.fund_steps.proofs.selection.missing.Given as goal

abbrev pub invariant-loop-point : goal.invariant-loop-point
invariant-loop-point l = find (λ p. not (contains same_outpoint l.there p)) (drop l.point-index l.points) ≡ find (λ p. not (contains same_outpoint l.there p)) l.points
