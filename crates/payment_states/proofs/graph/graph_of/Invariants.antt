use Rattle.std.proofs.Common.{◌≡◌, map, take, vec_len}
use Rattle.payment_states.specs.PendingView.{parents}
use Rattle.payment_states.proofs.graph.graph_of.Given as goal

abbrev pub invariant-loop-tx : goal.invariant-loop-tx
invariant-loop-tx l = (l.graph.items ≡ map (parents l.book.confirmed l.pending) (take l.tx-index l.pending)) × (vec_len l.graph ≡ l.tx-index)
