use Rattle.std.proofs.Common.{vec_len}
use Rattle.block_feed.proofs.Trees.{SameTree}
use Rattle.block_feed.proofs.merkle.tree_of.Given as goal

abbrev pub invariant-rising : goal.invariant-rising
invariant-rising l = SameTree l.fn.hashes.items l.level.items l.mutated

abbrev pub decreases-rising : goal.decreases-rising
decreases-rising l = vec_len l.level
