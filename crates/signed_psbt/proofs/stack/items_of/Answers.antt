use Rattle.std.proofs.lemmas.Result.{err_from_is_err_and}
use Rattle.fund_base.proofs.Repeat.{so_far_none, so_far_more, so_far_all, so_far_fails}
use Rattle.tx_codec.specs.Reading.{item_at}
use Rattle.tx_codec.proofs.Stacks.{lists_more}
use Rattle.signed_psbt.proofs.stack.items_of.Goals as goal

pub returns-in_err-item : goal.returns-in_err-item
returns-in_err-item c =
    let p = err_from_is_err_and c.from_residual.result c.from_residual.ensures.1 in
    rw (p.1, p.2) (so_far_fails _ _ _ _ _ _ _ _ c.loop-test.true c.in_err-item.ensures c.loop.invariant)

pub loop-init : goal.loop-init
loop-init c = rw c.new-items.ensures.items (so_far_none (λ _. item_at) c.args.count c.args.cursor.now)

pub loop-preserved : goal.loop-preserved
loop-preserved c = rw (c.in_ok-push.ensures.items, lists_more) (so_far_more (λ _. item_at) _ _ _ _ _ _ _ c.loop-test.true c.in_ok-item.ensures c.loop.invariant)

pub returns : goal.returns
returns c = so_far_all (λ _. item_at) _ _ _ _ _ c.loop-test.false c.loop.invariant
