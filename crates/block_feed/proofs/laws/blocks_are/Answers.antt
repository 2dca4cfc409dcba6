use Rattle.std.proofs.Common.{◌<◌}
use Rattle.std.proofs.lemmas.List.Elements.{All-take}
use Rattle.block_feed.proofs.FileLaws.{blocks_found, blocks_only}
use Rattle.block_feed.proofs.Limits.{blocks_limit}
use Rattle.block_feed.proofs.laws.blocks_are.Goals as goal

pub returns-clause-found : goal.returns-clause-found
returns-clause-found c = λ file hash height blocks fits e. blocks_found file hash height blocks (All-take (λ b. b < 256) 1_073_741_824 file fits) e

pub returns-clause-only : goal.returns-clause-only
returns-clause-only c = blocks_only

pub returns-clause-limit : goal.returns-clause-limit
returns-clause-limit c = blocks_limit
