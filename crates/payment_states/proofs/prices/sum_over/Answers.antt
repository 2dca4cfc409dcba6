use Rattle.std.proofs.Common.{◌≡◌, ◌≤◌, ◌∙◌, ℕ, ◌+◌, [], List, min, sym, ap, subst, arith}
use Rattle.std.proofs.lemmas.List.{get_or_default}
use Rattle.payment_states.specs.ByPlace.{number_at}
use Rattle.payment_states.specs.Counts.{are_one, share_in}
use Rattle.payment_states.specs.Graph.{steps}
use Rattle.payment_states.proofs.PriceSteps.{number_most, sum_known, sum_of_marks}
use Rattle.payment_states.proofs.ReachSteps.{later}
use Rattle.payment_states.proofs.prices.sum_over.Goals as goal

pub plus-requires-clause-a : goal.plus-requires-clause-a
plus-requires-clause-a c =
    subst (λ (n : ℕ). n ≤ 2_100_000_000_000_000) (sym (c.amount_at-before.ensures ∙ ap (number_at c.args.sums.now) c.first.ensures))
    (number_most c.args.parents.now c.args.shares.now c.args.sums.now c.args.place _ c.requires.sums)

pub sum_marked-requires-clause-above : goal.sum_marked-requires-clause-above
sum_marked-requires-clause-above c = λ j b. c.mark_kin-low.ensures.marks j ∙ later c.args.parents.now c.args.place j c.requires.order c.requires.place b

pub returns-then-are_one-clause-sum : goal.returns-then-are_one-clause-sum
returns-then-are_one-clause-sum c =
    let g = c.args.parents.now in
    let i = c.args.place in
    let above = c.as_slice-above.result.now in
    let is : steps g i ≡ above = sym (c.as_slice-above.ensures ∙ c.index-parents-place.is ∙ get_or_default g i c.index-parents-place.result [] c.requires.place) in
    c.plus.ensures
    ∙ ap (λ n. min 2_100_000_000_000_000 (n + share_in c.args.shares.now i)) (c.amount_at-before.ensures ∙ ap (number_at c.args.sums.now) c.first.ensures)
    ∙ sum_known g c.args.shares.now c.args.sums.now i above c.requires.order c.requires.place is (sym c.are_one.ensures ∙ c.if-are_one.true) c.requires.sums

pub returns-else-are_one-clause-sum : goal.returns-else-are_one-clause-sum
returns-else-are_one-clause-sum c =
    c.sum_marked.ensures.sum ∙ ap (λ n. min 2_100_000_000_000_000 n) (sum_of_marks c.args.parents.now c.args.shares.now c.mark_kin-low.new.marks c.args.place (omega arith) c.mark_kin-low.ensures.marks)
