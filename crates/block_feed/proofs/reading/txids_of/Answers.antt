use Rattle.std.proofs.lemmas.Result.{err_from_is_err_and}
use Rattle.fund_base.proofs.Repeat.{so_far_all, so_far_fails, so_far_more, so_far_none}
use Rattle.block_feed.specs.Names.{name_at}
use Rattle.block_feed.proofs.NameLaws.{name_fails, name_given}
use Rattle.block_feed.proofs.reading.txids_of.Goals as goal

pub returns-in_err-tx : goal.returns-in_err-tx
returns-in_err-tx c =
    let p = err_from_is_err_and c.from_residual.result c.from_residual.ensures.1 in
    rw (p.1, p.2) (so_far_fails (λ _. name_at) _ _ _ _ _ _ _ c.loop-test.true (λ other. name_fails _ _ (c.in_err-tx.ensures.exact other)) c.loop.invariant)

pub loop-init : goal.loop-init
loop-init c = rw c.new-txids.ensures.items (so_far_none (λ _. name_at) c.args.count c.args.cursor.now)

pub loop-preserved : goal.loop-preserved
loop-preserved c = rw (c.in_ok-push.ensures.items, c.txid.ensures) (so_far_more (λ _. name_at) _ _ _ _ _ _ _ c.loop-test.true (name_given _ _ _ c.in_ok-tx.ensures.exact) c.loop.invariant)

pub returns : goal.returns
returns c = so_far_all (λ _. name_at) _ _ _ _ _ c.loop-test.false c.loop.invariant
