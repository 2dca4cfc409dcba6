use Rattle.std.proofs.Common.{◌≡◌, ℕ, List, take}
use Rattle.std.specs.Prelude.{bytes_eq}
use Rattle.std.specs.List.{list_any}
use Rattle.indexmap.specs.IndexSet.{contains}
use Rattle.payment_states.specs.Candidates.{is_replaced_by}
use Rattle.payment_states.specs.declared.state.Payment.{Payment}
use Rattle.payment_states.proofs.claims.replacers_of.Given as goal

abbrev pub invariant-loop-payment : goal.invariant-loop-payment
invariant-loop-payment l = (t : List ℕ) → contains bytes_eq l.set t ≡ list_any (λ (p : Payment). is_replaced_by t p.state) (take l.payment-index l.payments)
