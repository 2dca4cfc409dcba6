use Rattle.std.proofs.lemmas.Result.{err_from_is_err_and}
use Rattle.psbt_codec.proofs.FieldLoops.{inputs_all, inputs_fail, inputs_more}
use Rattle.psbt_codec.proofs.fields.inputs_of.Goals as goal

pub returns-in_err-input : goal.returns-in_err-input
returns-in_err-input c =
    let p = err_from_is_err_and c.from_residual.result c.from_residual.ensures.1 in
    rw (p.1, p.2) (inputs_fail _ _ _ _ _ _ c.loop-number-test.true c.in_err-input.ensures c.loop-number.invariant)

pub loop-number-preserved : goal.loop-number-preserved
loop-number-preserved c = rw (c.in_ok-told.ensures) (inputs_more _ _ _ _ _ _ _ c.loop-number-test.true c.in_ok-input.ensures c.loop-number.invariant)

pub returns : goal.returns
returns c = inputs_all _ _ _ _ _ c.loop-number-test.false c.loop-number.invariant
