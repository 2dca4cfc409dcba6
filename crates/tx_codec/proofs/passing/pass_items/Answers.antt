use Rattle.std.proofs.lemmas.Result.{err_from_is_err_and}
use Rattle.tx_codec.specs.Reading.{item_at}
use Rattle.tx_codec.proofs.PassSteps.{many_fails, many_more}
use Rattle.tx_codec.proofs.passing.pass_items.Goals as goal

pub returns-in_err-bytes_of-clause-gives : goal.returns-in_err-bytes_of-clause-gives
returns-in_err-bytes_of-clause-gives c =
    let p = err_from_is_err_and c.from_residual.result c.from_residual.ensures.1 in
    rw (p.1, p.2) (many_fails (λ _. item_at) _ _ _ _ _ c.loop-test.true c.loop.invariant c.in_err-bytes_of.ensures.gives)

pub loop-preserved : goal.loop-preserved
loop-preserved c = many_more (λ _. item_at) _ _ _ _ _ _ c.loop-test.true c.loop.invariant c.in_ok-bytes_of.ensures.gives
