use Rattle.std.specs.Vec.Iter.{into_iter_items}
use Rattle.coin_book.proofs.MapSteps.{whole_more}
use Rattle.fund_desk.proofs.ReadyLaws.{point_more}
use Rattle.fund_desk.proofs.taken.by_point.Goals as goal

pub loop-coin-preserved : goal.loop-coin-preserved
loop-coin-preserved c =
    let front = c.loop-coin.yielded in
    let rest = into_iter_items c.next.new.self in
    let x = c.in-Some.coin in
    let whole = whole_more front rest (into_iter_items c.loop-coin.coin-iterator) x c.args.coins.items c.in-Some.ensures.steps.0 c.loop-coin.invariant.whole in
    record {
      found = λ o. point_more front rest c.args.coins.items x _ _ o c.requires whole (c.in_ok-insert.ensures.updates.0 o) (c.loop-coin.invariant.found o);
      whole = whole;
    }

pub loop-coin-preserved-in_ok-insert : goal.loop-coin-preserved-in_ok-insert
loop-coin-preserved-in_ok-insert c =
    let front = c.loop-coin.yielded in
    let rest = into_iter_items c.next.new.self in
    let x = c.in-Some.coin in
    let whole = whole_more front rest (into_iter_items c.loop-coin.coin-iterator) x c.args.coins.items c.in-Some.ensures.steps.0 c.loop-coin.invariant.whole in
    record {
      found = λ o. point_more front rest c.args.coins.items x _ _ o c.requires whole (c.in_ok-insert.ensures.updates.0 o) (c.loop-coin.invariant.found o);
      whole = whole;
    }
