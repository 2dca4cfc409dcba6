use Rattle.std.proofs.Common.{◌∙◌, sym, ap, List, ℕ, get_or}
use Rattle.std.proofs.lemmas.List.{take_all}
use Rattle.payment_states.specs.Least.{least_by, lesser, value_at}
use Rattle.payment_states.proofs.LeastSteps.{least_more, lesser_none}
use Rattle.payment_states.proofs.ancestry.least_from.Goals as goal

pub loop-parent-init : goal.loop-parent-init
loop-parent-init c = sym (lesser_none c.args.own)

pub loop-parent-preserved : goal.loop-parent-preserved
loop-parent-preserved c =
    let lt = c.loop-parent-test.true in
    c.lesser-here.ensures
    ∙ ap (λ v. lesser v (value_at c.args.least.now (get_or c.args.parents.now c.loop-parent.parent-index 0))) c.loop-parent.invariant
    ∙ least_more (value_at c.args.least.now) c.args.own c.args.parents.now c.loop-parent.parent-index 0 lt

pub returns : goal.returns
returns c = c.loop-parent.invariant ∙ ap (λ (ps : List ℕ). lesser c.args.own (least_by (value_at c.args.least.now) ps)) (take_all c.loop-parent.parent-index c.args.parents.now c.loop-parent-test.false)
