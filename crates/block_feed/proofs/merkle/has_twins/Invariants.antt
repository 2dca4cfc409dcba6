use Rattle.std.proofs.Common.{◌≡◌, length}
use Rattle.block_feed.specs.Merkle.{has_twins}
use Rattle.block_feed.proofs.merkle.has_twins.Given as goal

abbrev pub invariant-comparing : goal.invariant-comparing
invariant-comparing l = has_twins l.rest ≡ has_twins l.level

abbrev pub decreases-comparing : goal.decreases-comparing
decreases-comparing l = length l.rest
