use Rattle.fund_shelf.proofs.FrameLaws.{frame_fine, frame_whole, long_not, ok_not}
use Rattle.fund_shelf.proofs.pieces.read_whole.Goals as goal

pub returns-in_err-front-clause-frame : goal.returns-in_err-front-clause-frame
returns-in_err-front-clause-frame g c = frame_whole _ _ _ _ c.in_err-front.field-0.0 c.from_residual.result c.from_residual.ensures.1 c.in_err-front.ensures.frame

pub returns-then-front-clause-frame : goal.returns-then-front-clause-frame
returns-then-front-clause-frame g c = frame_fine _ _ _ _ _ _ (ok_not _ _) long_not c.in_ok-front.ensures.frame

pub returns-clause-frame : goal.returns-clause-frame
returns-clause-frame g c = frame_fine _ _ _ _ _ _ (ok_not _ _) (ok_not _ _) c.in_ok-front.ensures.frame
