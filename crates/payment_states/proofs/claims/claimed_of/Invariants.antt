use Rattle.std.proofs.Common.{◌≡◌, ◌&&◌, false}
use Rattle.std.specs.Prelude.{slice_index_or}
use Rattle.std.specs.List.{list_any}
use Rattle.indexmap.specs.IndexSet.{contains}
use Rattle.fund_base.specs.Outpoints.{same_outpoint}
use Rattle.fund_base.specs.declared.outpoint.OutPoint.{OutPoint}
use Rattle.coin_book.specs.Spends.{has_input}
use Rattle.payment_states.specs.Graph.{below}
use Rattle.payment_states.specs.PendingView.{no_tx}
use Rattle.payment_states.proofs.claims.claimed_of.Given as goal

abbrev pub invariant-loop-place : goal.invariant-loop-place
invariant-loop-place l = (o : OutPoint) → contains same_outpoint l.set o ≡ list_any (λ i. slice_index_or l.pending i false && has_input o (slice_index_or l.txs i no_tx).inputs) (below l.place)
