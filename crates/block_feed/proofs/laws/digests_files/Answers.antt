use Rattle.block_feed.proofs.DigestLaws.{digest_more, digest_whole}
use Rattle.block_feed.proofs.laws.digests_files.Goals as goal

pub returns-clause-more : goal.returns-clause-more
returns-clause-more c = digest_more

pub returns-clause-whole : goal.returns-clause-whole
returns-clause-whole c = digest_whole
