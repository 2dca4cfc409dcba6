use Rattle.std.proofs.Common.{◌≡◌, ◌∙◌, [], ◌∷◌, ◌++◌, length, map, sym, ap, arith}
use Rattle.payment_states.specs.Counts.{sum_over}
use Rattle.payment_states.specs.Graph.{below}
use Rattle.payment_states.proofs.Below.{map_below_more}
use Rattle.payment_states.proofs.prices.sums_of.Goals as goal

pub loop-place-init : goal.loop-place-init
unfolding below
loop-place-init c = (c.in_ok-sums.ensures.items, c.requires.clean)

pub loop-place-preserved : goal.loop-place-preserved
loop-place-preserved c = (
  c.in_ok-push.ensures.items ∙ (λ k. c.loop-place.invariant.0 k ++ c.sum_over-sum.ensures.sum k ∷ []) ∙ sym (map_below_more (sum_over c.args.parents.now c.args.shares.now) c.loop-place.place),
  c.sum_over-sum.ensures.clean,
)

pub returns : goal.returns
returns c = let e : c.loop-place.place ≡ length c.args.parents.now = omega arith in c.loop-place.invariant.0 ∙ ap (λ n. map (sum_over c.args.parents.now c.args.shares.now) (below n)) e
