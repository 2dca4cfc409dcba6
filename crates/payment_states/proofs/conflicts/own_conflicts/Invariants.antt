use Rattle.std.proofs.Common.{◌≡◌, ◌<◌, ℕ, take, map, Some, vec_len}
use Rattle.std.specs.Prelude.{slice_index_or}
use Rattle.tx_codec.specs.Transaction.{Transaction}
use Rattle.payment_states.specs.ByPlace.{FindsTxid, first_conflict}
use Rattle.payment_states.proofs.conflicts.own_conflicts.Given as goal

abbrev pub invariant-loop-tx : goal.invariant-loop-tx
invariant-loop-tx l =
    (l.places.items ≡ map (λ (t : Transaction). first_conflict l.book.confirmed t.inputs) (take l.tx-index l.pending))
    × (vec_len l.places ≡ l.tx-index)
    × ((j k : ℕ) (d : Transaction) → j < l.tx-index → first_conflict l.book.confirmed (slice_index_or l.pending j d).inputs ≡ Some k → FindsTxid l.book.confirmed l.names.entries k)
