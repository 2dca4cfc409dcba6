use Rattle.fund_shelf.proofs.FrameLaws.{frame_read, frame_same, ok_not}
use Rattle.block_feed.proofs.parts.is_longer.Goals as goal

pub returns-in_err-count-clause-frame : goal.returns-in_err-count-clause-frame
returns-in_err-count-clause-frame g c = frame_read _ _ _ _ c.in_err-count.field-0.0 c.from_residual.result c.from_residual.ensures.1 c.in_err-count.ensures.same c.in_err-count.ensures.reads c.in_err-count.ensures.writes c.in_err-count.ensures.cause c.in_err-count.ensures.short c.in_err-count.ensures.asked

pub returns-clause-frame : goal.returns-clause-frame
returns-clause-frame g c = frame_same _ _ _ _ _ (ok_not _ _) c.in_ok-count.ensures.same c.in_ok-count.ensures.unfailed c.in_ok-count.ensures.writes c.in_ok-count.ensures.asked
