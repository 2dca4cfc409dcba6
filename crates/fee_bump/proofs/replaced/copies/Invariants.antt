use Rattle.std.proofs.Common.{◌≡◌, map, take}
use Rattle.std.specs.Prelude.{slice_index_or}
use Rattle.payment_states.specs.PendingView.{no_tx}
use Rattle.fee_bump.proofs.replaced.copies.Given as goal

abbrev pub invariant-loop-place : goal.invariant-loop-place
invariant-loop-place l = l.copies.items ≡ map (λ j. slice_index_or l.txs j no_tx) (take l.place-index l.places)
