use Rattle.std.proofs.Common.{◌≡◌, take, Some, if◌then◌else◌}
use Rattle.std.specs.Map.{lookup}
use Rattle.fund_base.specs.Outpoints.{same_outpoint}
use Rattle.fund_base.specs.declared.outpoint.OutPoint.{OutPoint}
use Rattle.coin_book.specs.Spends.{has_input}
use Rattle.payment_states.proofs.replaced.keep_place.Given as goal

abbrev pub invariant-loop-input : goal.invariant-loop-input
invariant-loop-input l = (o : OutPoint) → lookup (same_outpoint o) l.nearest.entries ≡ (if has_input o (take l.input-index l.inputs) then Some l.place else lookup (same_outpoint o) l.initial.nearest.entries)
