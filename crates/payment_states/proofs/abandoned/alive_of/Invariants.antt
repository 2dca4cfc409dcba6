use Rattle.std.proofs.Common.{◌≡◌, ◌&&◌, not, false, None, map, vec_len}
use Rattle.std.specs.Prelude.{is_none, slice_index_or}
use Rattle.payment_states.specs.Graph.{below}
use Rattle.payment_states.proofs.abandoned.alive_of.Given as goal

abbrev pub invariant-loop-place : goal.invariant-loop-place
invariant-loop-place l = (l.alive.items ≡ map (λ i. is_none (slice_index_or l.heights i None) && (is_none (slice_index_or l.conflicts i None) && not (slice_index_or l.abandoned i false))) (below l.place)) × (vec_len l.alive ≡ l.place)
