use Rattle.std.proofs.Common.{◌∙◌, [], ◌∷◌, ◌++◌, sym}
use Rattle.payment_states.specs.Graph.{below}
use Rattle.payment_states.proofs.Below.{below_more}
use Rattle.payment_facts.proofs.pendings.places_below.Goals as goal

pub loop-place-init : goal.loop-place-init
unfolding below
loop-place-init c = c.new-places.ensures.items

pub loop-place-preserved : goal.loop-place-preserved
loop-place-preserved c = c.in_ok-push.ensures.items ∙ (λ k. c.loop-place.invariant k ++ c.loop-place.place ∷ []) ∙ sym (below_more c.loop-place.place)
