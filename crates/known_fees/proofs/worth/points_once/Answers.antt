use Rattle.std.proofs.Common.{◌∙◌, sym}
use Rattle.known_fees.specs.Worth.{add_once, once_of}
use Rattle.known_fees.proofs.WorthSteps.{once_more}
use Rattle.known_fees.proofs.worth.points_once.Goals as goal

pub loop-input-init : goal.loop-input-init
unfolding once_of
loop-input-init c = c.new-points.ensures.empty

pub loop-input-preserved : goal.loop-input-preserved
loop-input-preserved c =
    c.in_ok-insert.ensures.keys
    ∙ (λ k. add_once (c.loop-input.invariant k) c.input-item.result.prev)
    ∙ sym (once_more c.args.inputs.now c.loop-input.input-index c.input-item.result c.loop-input-test.true c.input-item.is)
