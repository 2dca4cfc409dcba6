use Rattle.std.proofs.Common.{◌≡◌, length, map, vec_len}
use Rattle.payment_states.specs.Graph.{below, within}
use Rattle.payment_facts.proofs.pendings.reaching.Given as goal

abbrev pub invariant-loop-place : goal.invariant-loop-place
invariant-loop-place l = (l.marks.items ≡ map (λ j. within l.parents (length l.parents) j l.given) (below l.place)) × (vec_len l.marks ≡ l.place)
