use Rattle.std.proofs.Common.{◌≡◌, take, map, vec_len}
use Rattle.payment_states.specs.Candidates.{is_pending_state}
use Rattle.payment_states.specs.declared.state.Payment.{Payment}
use Rattle.payment_states.proofs.claims.pending_of.Given as goal

abbrev pub invariant-loop-payment : goal.invariant-loop-payment
invariant-loop-payment l = (l.pending.items ≡ map (λ (p : Payment). is_pending_state p.state) (take l.payment-index l.payments)) × (vec_len l.pending ≡ l.payment-index)
