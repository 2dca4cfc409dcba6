use Rattle.std.proofs.Common.{◌∙◌}
use Rattle.std.proofs.lemmas.Result.{err_from_is_err_and}
use Rattle.psbt_codec.proofs.EachLaws.{inputs_fail}
use Rattle.psbt_codec.proofs.reading.inputs_of.Goals as goal

pub returns-in_err-known : goal.returns-in_err-known
returns-in_err-known c =
    let p = err_from_is_err_and c.from_residual.result c.from_residual.ensures.1 in
    rw (p.1, p.2) (inputs_fail _ _ _ _ _ _ _ c.input-item.result c.input-item.result _ (c.len.ensures ∙ c.loop-input.spent.ok.0) c.input-item.is c.loop-input-test.true c.in_err-known.ensures c.loop-input.invariant)
