use Rattle.std.proofs.Common.{◌≡◌, ◌&&◌, not, [], map, vec_len}
use Rattle.std.specs.Prelude.{bytes_eq, slice_index_or}
use Rattle.indexmap.specs.IndexSet.{contains}
use Rattle.coin_book.specs.Coins.{coins_of}
use Rattle.payment_states.specs.Candidates.{is_mine}
use Rattle.payment_states.specs.Graph.{below}
use Rattle.payment_states.specs.ByPlace.{place_if}
use Rattle.payment_states.specs.PendingView.{no_tx}
use Rattle.payment_states.specs.declared.state.Payment.{Payment}
use Rattle.payment_states.proofs.claims.doubts_of.Given as goal

abbrev pub invariant-loop-place : goal.invariant-loop-place
invariant-loop-place l = (l.doubts.items ≡ map (λ i. place_if (not (is_mine (coins_of l.book) (slice_index_or l.txs i no_tx) && not (contains bytes_eq l.replacers (slice_index_or (map (λ (p : Payment). p.txid) l.payments) i [])))) 0) (below l.place)) × (vec_len l.doubts ≡ l.place)
