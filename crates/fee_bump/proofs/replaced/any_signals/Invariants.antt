use Rattle.std.proofs.Common.{◌≡◌, false, take}
use Rattle.std.specs.Prelude.{slice_index_or}
use Rattle.std.specs.List.{list_any}
use Rattle.payment_states.specs.PendingView.{no_tx}
use Rattle.fee_bump.specs.Faults.{has_signal}
use Rattle.fee_bump.proofs.replaced.any_signals.Given as goal

abbrev pub invariant-loop-place : goal.invariant-loop-place
invariant-loop-place l = list_any (λ j. has_signal (slice_index_or l.txs j no_tx)) (take l.place-index l.places) ≡ false
