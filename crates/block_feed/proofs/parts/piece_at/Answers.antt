use Rattle.std.proofs.Common.{ℕ, Vec, arith}
use Rattle.std.specs.declared.alloc.Global.{Global}
use Rattle.block_feed.specs.Feed.{seen_from}
use Rattle.block_feed.proofs.PartLaws.{first_if}
use Rattle.block_feed.proofs.parts.piece_at.Goals as goal

pub returns-clause-piece : goal.returns-clause-piece
returns-clause-piece g c = λ told.
    first_if (λ (v : Vec ℕ Global). v.items) 131072 (seen_from ((g.H.Shelf.view c.args.shelf.now).files c.args.name.now) c.args.at) c.part_of.result (omega arith) (c.part_of.ensures.part told)

pub returns-clause-frame : goal.returns-clause-frame
returns-clause-frame g c = c.part_of.ensures.frame
