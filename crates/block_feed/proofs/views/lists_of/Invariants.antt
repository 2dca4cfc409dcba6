use Rattle.std.proofs.Common.{◌≡◌, ◌++◌}
use Rattle.block_feed.proofs.views.lists_of.Given as goal

abbrev pub invariant-loop-view : goal.invariant-loop-view
invariant-loop-view l = l.txs.items ++ l.view-iterator ≡ l.fn.views
