use Rattle.std.proofs.Common.{◌≡◌, map, vec_len}
use Rattle.std.specs.Prelude.{is_some}
use Rattle.payment_states.specs.Graph.{below}
use Rattle.payment_states.specs.Least.{value_at}
use Rattle.payment_states.specs.ByPlace.{place_if}
use Rattle.payment_states.proofs.replaced.places_with.Given as goal

abbrev pub invariant-loop-place : goal.invariant-loop-place
invariant-loop-place l = (l.places.items ≡ map (λ j. place_if (is_some (value_at l.found j)) j) (below l.place)) × (vec_len l.places ≡ l.place)
