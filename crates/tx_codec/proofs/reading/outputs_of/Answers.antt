use Rattle.std.proofs.lemmas.Result.{err_from_is_err_and}
use Rattle.tx_codec.proofs.Outputs.{outputs_all, outputs_fail, outputs_more, outputs_none}
use Rattle.tx_codec.proofs.reading.outputs_of.Goals as goal

pub returns-in_err-output : goal.returns-in_err-output
returns-in_err-output c =
    let p = err_from_is_err_and c.from_residual.result c.from_residual.ensures.1 in
    rw (p.1, p.2) (outputs_fail _ _ _ _ _ _ _ c.loop-index-test.true c.in_err-output.ensures.gives c.loop-index.invariant)

pub loop-index-preserved : goal.loop-index-preserved
loop-index-preserved c =
    rw (c.in_ok-push.ensures.items, c.get-sum.ensures.value) (outputs_more _ _ _ _ _ _ _ _ c.loop-index-test.true c.in_ok-output.ensures.gives c.in_ok-output.ensures.range c.loop-index.invariant)

pub loop-index-init : goal.loop-index-init
loop-index-init c = rw c.new-outputs.ensures.items (outputs_none c.args.count c.args.cursor.now)

pub returns : goal.returns
returns c = outputs_all _ _ _ _ _ _ c.loop-index-test.false c.loop-index.invariant
