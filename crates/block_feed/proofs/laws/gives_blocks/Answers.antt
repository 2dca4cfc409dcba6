use Rattle.block_feed.proofs.FeedLaws.{gives_before, gives_end, gives_first, gives_found, gives_only}
use Rattle.block_feed.proofs.Limits.{gives_limit}
use Rattle.block_feed.proofs.laws.gives_blocks.Goals as goal

pub returns-clause-before : goal.returns-clause-before
returns-clause-before c = λ file old new result is. gives_before 1_073_741_824 file old new result is.exact is.bytes is.moves

pub returns-clause-first : goal.returns-clause-first
returns-clause-first c = λ file old new result is. gives_first 1_073_741_824 file old new result is.exact is.moves

pub returns-clause-found : goal.returns-clause-found
returns-clause-found c = λ file old new result is. gives_found 1_073_741_824 file old new result is.exact is.bytes

pub returns-clause-only : goal.returns-clause-only
returns-clause-only c = λ file old new result is. gives_only 1_073_741_824 file old new result is.exact

pub returns-clause-end : goal.returns-clause-end
returns-clause-end c = λ file old new result is ends. gives_end 1_073_741_824 file old new result is.exact ends.0 ends.1

pub returns-clause-limit : goal.returns-clause-limit
returns-clause-limit c = λ file old new result is. gives_limit 1_073_741_824 file old new result is.exact
