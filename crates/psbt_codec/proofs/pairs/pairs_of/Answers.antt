use Rattle.std.proofs.Common.{◌≡◌, ◌<◌, ℕ, List, length, ap, arith}
use Rattle.std.proofs.lemmas.Result.{err_from_is_err_and}
use Rattle.psbt_codec.proofs.MapLaws.{pairs_fail}
use Rattle.psbt_codec.proofs.pairs.pairs_of.Goals as goal

pub returns-in_err-pair-clause-gives : goal.returns-in_err-pair-clause-gives
returns-in_err-pair-clause-gives c =
    let p = err_from_is_err_and c.from_residual.result c.from_residual.ensures.1 in
    let same : length c.rest-end.result.now ≡ length c.args.cursor.now.rest = ap (λ (l : List ℕ). length l) c.rest-end.ensures.value in
    let lt : c.loop.counter < length c.args.cursor.now.rest = omega (arith, same, c.loop-test.true) in
    rw (p.1, p.2) (pairs_fail c.args.part (length c.args.cursor.now.rest) c.args.cursor.now c.loop.seen c.loop.counter c.loop.cursor _ lt c.in_err-pair.ensures.gives c.loop.invariant)
