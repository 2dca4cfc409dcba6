use Rattle.block_feed.proofs.DigestLaws.{gives_digests}
use Rattle.block_feed.proofs.FeedLaws.{gives_within}
use Rattle.block_feed.specs.Feed.{seen_from}
use Rattle.block_feed.proofs.NextLaws.{past_bytes, past_linked, past_taken, past_within}
use Rattle.block_feed.proofs.feed.Feed.next_raw.Goals as goal

pub returns-clause-bytes : goal.returns-clause-bytes
returns-clause-bytes g c = past_bytes g.H.Shelf.tells (seen_from ((g.H.Shelf.view c.args.shelf.now).files c.args.name.now) c.args.self.now.place) c.args.self.now c.advance.new.self c.advance.result c.advance.ensures.past

pub returns-clause-within : goal.returns-clause-within
returns-clause-within g c = λ told fine.
    gives_within 1073741824 ((g.H.Shelf.view c.args.shelf.now).files c.args.name.now) c.args.self.now c.advance.new.self c.advance.result (c.advance.ensures.exact told fine) (past_bytes g.H.Shelf.tells (seen_from ((g.H.Shelf.view c.args.shelf.now).files c.args.name.now) c.args.self.now.place) c.args.self.now c.advance.new.self c.advance.result c.advance.ensures.past told)

pub returns-clause-digests : goal.returns-clause-digests
returns-clause-digests g c = λ told fine.
    gives_digests 1073741824 ((g.H.Shelf.view c.args.shelf.now).files c.args.name.now) c.args.self.now c.advance.new.self c.advance.result (c.advance.ensures.exact told fine) (past_within g.H.Shelf.tells (seen_from ((g.H.Shelf.view c.args.shelf.now).files c.args.name.now) c.args.self.now.place) c.args.self.now c.advance.new.self c.advance.result c.advance.ensures.past) (past_taken g.H.Shelf.tells (seen_from ((g.H.Shelf.view c.args.shelf.now).files c.args.name.now) c.args.self.now.place) c.args.self.now c.advance.new.self c.advance.result c.advance.ensures.past told) (c.advance.ensures.end_digest told fine)

pub returns-clause-frame : goal.returns-clause-frame
returns-clause-frame g c = c.advance.ensures.frame

pub returns-clause-linked : goal.returns-clause-linked
returns-clause-linked g c = past_linked g.H.Shelf.tells (seen_from ((g.H.Shelf.view c.args.shelf.now).files c.args.name.now) c.args.self.now.place) c.args.self.now c.advance.new.self c.advance.result c.advance.ensures.past
