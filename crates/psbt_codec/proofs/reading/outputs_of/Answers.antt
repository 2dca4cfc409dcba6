use Rattle.std.proofs.Common.{◌<◌, length, arith}
use Rattle.std.proofs.lemmas.Result.{err_from_is_err_and}
use Rattle.psbt_codec.proofs.EachLaws.{outputs_fail}
use Rattle.psbt_codec.proofs.reading.outputs_of.Goals as goal

pub returns-in_err-pairs_of : goal.returns-in_err-pairs_of
returns-in_err-pairs_of c =
    let p = err_from_is_err_and c.from_residual.result c.from_residual.ensures.1 in
    let lt : c.loop-output._output-index < length c.args.outputs.now = omega arith in
    rw (p.1, p.2) (outputs_fail _ _ _ _ _ lt c.in_err-pairs_of.ensures.gives c.loop-output.invariant)
