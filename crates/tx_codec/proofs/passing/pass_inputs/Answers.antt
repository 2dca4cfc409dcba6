use Rattle.std.proofs.lemmas.Result.{err_from_is_err_and}
use Rattle.tx_codec.specs.Reading.{input_at}
use Rattle.tx_codec.proofs.PassSteps.{many_fails, many_more}
use Rattle.tx_codec.proofs.passing.pass_inputs.Goals as goal

pub returns-in_err-input_view-clause-gives : goal.returns-in_err-input_view-clause-gives
returns-in_err-input_view-clause-gives c =
    let p = err_from_is_err_and c.from_residual.result c.from_residual.ensures.1 in
    rw (p.1, p.2) (many_fails (λ _. input_at) _ _ _ _ _ c.loop-test.true c.loop.invariant c.in_err-input_view.ensures.gives)

pub loop-preserved : goal.loop-preserved
loop-preserved c = many_more (λ _. input_at) _ _ _ _ _ _ c.loop-test.true c.loop.invariant c.in_ok-input_view.ensures.gives
