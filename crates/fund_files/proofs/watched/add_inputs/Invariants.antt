use Rattle.std.proofs.Common.{◌≡◌, ◌||◌, take}
use Rattle.indexmap.specs.IndexSet.{contains}
use Rattle.fund_base.specs.Outpoints.{same_outpoint}
use Rattle.fund_base.specs.declared.outpoint.OutPoint.{OutPoint}
use Rattle.coin_book.specs.Spends.{has_input}
use Rattle.fund_files.proofs.watched.add_inputs.Given as goal

abbrev pub invariant-loop-input : goal.invariant-loop-input
invariant-loop-input l = (o : OutPoint) → contains same_outpoint l.points o ≡ (contains same_outpoint l.initial.points o || has_input o (take l.input-index l.inputs))
