use Rattle.std.proofs.Common.{◌≡◌}
use Rattle.payment_states.specs.Graph.{below}
use Rattle.payment_facts.proofs.pendings.places_below.Given as goal

abbrev pub invariant-loop-place : goal.invariant-loop-place
invariant-loop-place l = l.places.items ≡ below l.place
