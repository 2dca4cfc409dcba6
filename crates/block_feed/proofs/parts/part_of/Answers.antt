use Rattle.std.proofs.Common.{ℕ, Vec, arith}
use Rattle.std.specs.declared.alloc.Global.{Global}
use Rattle.fund_shelf.proofs.FrameLaws.{frame_none, memory_not}
use Rattle.block_feed.proofs.PartLaws.{part_if}
use Rattle.block_feed.proofs.parts.part_of.Goals as goal

pub returns-clause-part : goal.returns-clause-part
returns-clause-part g c = λ told.
    part_if (λ (v : Vec ℕ Global). v.items) 1073741824 c.args.at c.args.count c.min-within.result ((g.H.Shelf.view c.args.shelf.now).files c.args.name.now) c.read_pieces.result c.requires (omega (arith, c.min-within.ensures)) (c.read_pieces.ensures.part told)

pub returns-in_err-piece-clause-frame : goal.returns-in_err-piece-clause-frame
returns-in_err-piece-clause-frame g c = frame_none _ _ _ _ (memory_not c.from_residual.result c.from_residual.ensures.1)

pub returns-clause-frame : goal.returns-clause-frame
returns-clause-frame g c = c.read_pieces.ensures.frame
