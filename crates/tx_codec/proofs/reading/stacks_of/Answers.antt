use Rattle.std.proofs.Common.{◌<◌, ◌≤◌, length, arith}
use Rattle.std.proofs.lemmas.Result.{err_from_is_err_and}
use Rattle.tx_codec.proofs.Stacks.{stacks_all, stacks_fail, stacks_more, stacks_none}
use Rattle.tx_codec.proofs.reading.stacks_of.Goals as goal

pub returns-in_err-input : goal.returns-in_err-input
returns-in_err-input c =
    let p = err_from_is_err_and c.from_residual.result c.from_residual.ensures.1 in
    let lt : c.loop-input.input-index < length c.loop-input.input-items = omega arith in
    rw (p.1, p.2) (stacks_fail _ _ _ _ _ c.input-item.result _ lt c.in_err-input.ensures.gives c.loop-input.invariant)

pub loop-input-preserved : goal.loop-input-preserved
loop-input-preserved c =
    let lt : c.loop-input.input-index < length c.loop-input.input-items = omega arith in
    stacks_more _ _ _ _ _ c.input-item.result _ _ lt c.in_ok-input.ensures.gives c.loop-input.invariant

pub loop-input-init : goal.loop-input-init
loop-input-init c = stacks_none c.args.inputs.now c.args.cursor.now

pub returns : goal.returns
returns c =
    let over : length c.loop-input.input-items ≤ c.loop-input.input-index = omega arith in
    stacks_all _ _ _ _ _ over c.loop-input.invariant
