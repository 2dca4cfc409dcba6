use Rattle.std.proofs.lemmas.Result.{err_from_is_err_and}
use Rattle.tx_codec.proofs.PassSteps.{worth_all, worth_fails}
use Rattle.tx_codec.proofs.passing.pass_outputs.Goals as goal

pub returns-in_err-output-clause-gives : goal.returns-in_err-output-clause-gives
returns-in_err-output-clause-gives c =
    let p = err_from_is_err_and c.from_residual.result c.from_residual.ensures.1 in
    rw (p.1, p.2) (worth_fails _ _ _ _ _ _ c.loop-index-test.true c.loop-index.invariant c.in_err-output.ensures.gives)

pub returns-clause-gives : goal.returns-clause-gives
returns-clause-gives c = worth_all _ _ _ _ _ c.loop-index-test.false c.loop-index.invariant
