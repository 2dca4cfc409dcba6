use Rattle.std.proofs.Common.{◌≡◌, map, vec_len}
use Rattle.payment_states.specs.Graph.{below, kin}
use Rattle.payment_states.specs.Least.{least_by, value_at}
use Rattle.payment_states.proofs.ancestry.least_of_kin.Given as goal

abbrev pub invariant-loop-place : goal.invariant-loop-place
invariant-loop-place l = (l.least.items ≡ map (λ i. least_by (value_at l.own) (kin l.parents i)) (below l.place)) × (vec_len l.least ≡ l.place)
