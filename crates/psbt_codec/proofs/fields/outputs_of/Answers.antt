use Rattle.std.proofs.lemmas.Result.{err_from_is_err_and}
use Rattle.psbt_codec.proofs.FieldLoops.{outputs_all, outputs_fail, outputs_more, outputs_none}
use Rattle.psbt_codec.proofs.fields.outputs_of.Goals as goal

pub returns-in_err-output : goal.returns-in_err-output
returns-in_err-output c =
    let p = err_from_is_err_and c.from_residual.result c.from_residual.ensures.1 in
    rw (p.1, p.2) (outputs_fail _ _ _ _ _ _ _ c.loop-number-test.true c.in_err-output.ensures.gives c.loop-number.invariant)

pub loop-number-preserved : goal.loop-number-preserved
loop-number-preserved c =
    rw (c.in_ok-push.ensures.items, c.get-sum.ensures.value) (outputs_more _ _ _ _ _ _ _ _ c.loop-number-test.true c.in_ok-output.ensures.gives c.in_ok-output.ensures.range c.loop-number.invariant)

pub loop-number-init : goal.loop-number-init
loop-number-init c = rw c.new-outputs.ensures.items (outputs_none c.args.count c.args.cursor.now)

pub returns : goal.returns
returns c = outputs_all _ _ _ _ _ _ c.loop-number-test.false c.loop-number.invariant
