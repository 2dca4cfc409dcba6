use Rattle.std.proofs.Common.{◌≡◌, ◌++◌, length}
use Rattle.block_feed.specs.Merkle.{level_above}
use Rattle.block_feed.proofs.merkle.level_above.Given as goal

abbrev pub invariant-pairing : goal.invariant-pairing
invariant-pairing l = l.above.items ++ level_above l.rest ≡ level_above l.level

abbrev pub decreases-pairing : goal.decreases-pairing
decreases-pairing l = length l.rest
