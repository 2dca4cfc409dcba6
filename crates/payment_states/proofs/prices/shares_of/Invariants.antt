use Rattle.std.proofs.Common.{◌≡◌, ◌≤◌, false, map, vec_len, All, if◌then◌else◌}
use Rattle.std.specs.Prelude.{slice_index_or}
use Rattle.known_fees.specs.Missing.{missing_of}
use Rattle.payment_states.specs.Graph.{below}
use Rattle.payment_states.specs.PendingView.{no_tx}
use Rattle.payment_states.proofs.prices.shares_of.Given as goal

abbrev pub invariant-loop-place : goal.invariant-loop-place
invariant-loop-place l =
    (l.shares.items ≡ map (λ i. if slice_index_or l.flags i false then missing_of l.rate l.book l.txs (slice_index_or l.txs i no_tx) else 0) (below l.place))
    × All (λ n. n ≤ 2_100_000_000_000_000) l.shares.items
    × (vec_len l.shares ≡ l.place)
