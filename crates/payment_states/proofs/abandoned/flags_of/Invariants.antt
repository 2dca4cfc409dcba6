use Rattle.std.proofs.Common.{◌≡◌, take, map, vec_len}
use Rattle.payment_states.specs.ByPlace.{place_if}
use Rattle.payment_states.specs.PendingView.{is_listed}
use Rattle.payment_states.proofs.abandoned.flags_of.Given as goal

abbrev pub invariant-loop-txid : goal.invariant-loop-txid
invariant-loop-txid l = (l.flags.items ≡ map (λ t. place_if (is_listed l.abandoned t) 0) (take l.txid-index l.txids)) × (vec_len l.flags ≡ l.txid-index)
