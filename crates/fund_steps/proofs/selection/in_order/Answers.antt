use Rattle.fund_steps.specs.Selection.{by_outpoint}
use Rattle.fund_steps.proofs.SelectionLaws.{order_next}
use Rattle.fund_steps.proofs.selection.in_order.Goals as goal

pub loop-coin-init : goal.loop-coin-init
unfolding by_outpoint
loop-coin-init c = c.new-ordered.ensures.empty

pub loop-coin-preserved : goal.loop-coin-preserved
loop-coin-preserved c = order_next c.loop-coin.yielded c.in-Some.coin c.loop-coin.ordered.entries c.put.new.coins.entries c.in_ok-put.ensures c.loop-coin.invariant
