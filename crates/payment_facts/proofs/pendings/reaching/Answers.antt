use Rattle.std.proofs.Common.{◌≡◌, ◌∙◌, ℕ, ◌<◌, Bool, [], ◌∷◌, ◌++◌, length, map, sym, ap, arith}
use Rattle.std.proofs.lemmas.List.{get_or_default}
use Rattle.payment_states.specs.Graph.{below, within}
use Rattle.payment_states.proofs.Below.{map_below_more}
use Rattle.payment_facts.proofs.PendingSteps.{reached}
use Rattle.payment_facts.proofs.pendings.reaching.Goals as goal

pub loop-place-init : goal.loop-place-init
unfolding below
loop-place-init c = (c.new-marks.ensures.items, c.new-marks.ensures.len)

pub loop-place-preserved : goal.loop-place-preserved
loop-place-preserved c =
    let g = c.args.parents.now in
    let i = c.loop-place.place in
    let f : ℕ → Bool = λ j. within g (length g) j c.args.given in
    let lt : i < length g = c.loop-place-test.true in
    let here : c.is_reaching-mark.result ≡ f i =
    c.is_reaching-mark.ensures
    ∙ reached g c.args.given i c.as_slice.result.now c.deref.result.now c.requires lt (c.as_slice.ensures ∙ c.index-parents-place.is ∙ get_or_default g i c.index-parents-place.result [] lt) (c.deref.ensures.value ∙ c.loop-place.invariant.0) in
    (c.in_ok-push.ensures.items ∙ (λ k. c.loop-place.invariant.0 k ++ here k ∷ []) ∙ sym (map_below_more f i), omega (arith, c.in_ok-push.ensures.len))

pub returns-clause-marks : goal.returns-clause-marks
returns-clause-marks c =
    let g = c.args.parents.now in
    let e : c.loop-place.place ≡ length g = omega arith in
    c.loop-place.invariant.0 ∙ ap (λ n. map (λ j. within g (length g) j c.args.given) (below n)) e

pub returns-clause-len : goal.returns-clause-len
returns-clause-len c = omega (arith, c.loop-place.invariant.1)
