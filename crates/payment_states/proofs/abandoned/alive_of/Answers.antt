use Rattle.std.proofs.Common.{◌≡◌, ◌∙◌, ℕ, ◌&&◌, not, Bool, false, List, [], ◌∷◌, ◌++◌, get_or, Option, None, sym, ap, arith}
use Rattle.std.specs.Prelude.{is_none, slice_index_or}
use Rattle.std.proofs.lemmas.List.{get_or_default}
use Rattle.payment_states.specs.Graph.{below}
use Rattle.payment_states.proofs.Below.{map_below_more}
use Rattle.payment_states.proofs.abandoned.alive_of.Goals as goal

pub loop-place-init : goal.loop-place-init
unfolding below
loop-place-init c = (c.new-alive.ensures.items, c.new-alive.ensures.len)

pub loop-place-preserved : goal.loop-place-preserved
loop-place-preserved c =
    let f : ℕ → Bool = λ i. is_none (slice_index_or c.args.heights.now i None) && (is_none (slice_index_or c.args.conflicts.now i None) && not (slice_index_or c.args.abandoned.now i false)) in
    let read : c.index-conflicts-place.result ≡ get_or c.args.conflicts.now c.loop-place.place None = c.index-conflicts-place.is ∙ get_or_default c.args.conflicts.now c.loop-place.place c.index-conflicts-place.result None (omega arith) in
    let here : c.is_alive.result ≡ f c.loop-place.place = c.is_alive.ensures ∙ ap (λ (o : Option (List ℕ)). is_none (get_or c.args.heights.now c.loop-place.place None) && (is_none o && not (get_or c.args.abandoned.now c.loop-place.place false))) read in
    (c.in_ok-push.ensures.items ∙ (λ k. c.loop-place.invariant.0 k ++ here k ∷ []) ∙ sym (map_below_more f c.loop-place.place), omega (arith, c.in_ok-push.ensures.len))
