use Rattle.std.proofs.Common.{◌<◌, length, arith}
use Rattle.block_feed.proofs.Trees.{SameTree, same_more}
use Rattle.block_feed.proofs.merkle.tree_of.Goals as goal

pub rising-preserved : goal.rising-preserved
rising-preserved c =
    let more : 1 < length c.deref.result.now = omega arith in
    let same : SameTree c.args.hashes.items c.deref.result.now c.rising.mutated = rw c.deref.ensures.value c.rising.invariant in
    rw (c.in_ok-level.ensures, c.deref-in-rising.ensures.value, ← c.deref.ensures.value, c.has_twins-mutated.ensures) (same_more _ _ _ more same)
