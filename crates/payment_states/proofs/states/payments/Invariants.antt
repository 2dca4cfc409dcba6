use Rattle.std.proofs.Common.{◌≡◌, map}
use Rattle.payment_states.specs.Graph.{below}
use Rattle.payment_states.specs.ByPlace.{payment_by}
use Rattle.payment_states.proofs.states.payments.Given as goal

abbrev pub invariant-loop-place : goal.invariant-loop-place
invariant-loop-place l = l.payments.items ≡ map (payment_by l.txids l.heights l.conflicts l.abandoned l.found l.firsts) (below l.place)
