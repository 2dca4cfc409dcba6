use Rattle.std.proofs.Common.{None}
use Rattle.fund_shelf.proofs.FrameLaws.{frame_fine, ok_not}
use Rattle.fund_files.proofs.blocks.whole_book_from.Goals as goal

pub unreachable-requires : goal.unreachable-requires
unreachable-requires g c = rw c.in-Part.is at (c.in_ok-booked.ensures.keeps None c.in-Ok.ensures.keeps)

pub returns-in-Whole-clause-frame : goal.returns-in-Whole-clause-frame
returns-in-Whole-clause-frame g c = frame_fine _ _ _ _ _ _ (ok_not _ _) (ok_not _ _) c.in_ok-booked.ensures.frame
