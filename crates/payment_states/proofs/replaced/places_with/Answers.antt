use Rattle.std.proofs.Common.{◌∙◌, ℕ, [], ◌∷◌, ◌++◌, Option, sym, ap, arith}
use Rattle.std.specs.Prelude.{is_some}
use Rattle.payment_states.specs.Graph.{below}
use Rattle.payment_states.specs.Least.{value_at}
use Rattle.payment_states.specs.ByPlace.{place_if}
use Rattle.payment_states.proofs.Below.{map_below_more}
use Rattle.payment_states.proofs.replaced.places_with.Goals as goal

pub loop-place-init : goal.loop-place-init
unfolding below
loop-place-init c = (c.new-places.ensures.items, c.new-places.ensures.len)

pub loop-place-preserved : goal.loop-place-preserved
loop-place-preserved c =
    let f : ℕ → Option ℕ = λ j. place_if (is_some (value_at c.args.found.now j)) j in
    (c.in_ok-push.ensures.items ∙ (λ k. c.loop-place.invariant.0 k ++ (c.place_if.ensures ∙ ap (λ b. place_if b c.loop-place.place) c.is_some.ensures) k ∷ []) ∙ sym (map_below_more f c.loop-place.place), omega (arith, c.in_ok-push.ensures.len))
