use Rattle.fund_shelf.proofs.FrameLaws.{frame_fine, frame_then, ok_not}
use Rattle.fund_files.proofs.StopLaws.{frame_passed_on}
use Rattle.fund_files.proofs.wallet_book.wallet_book_from.Goals as goal

pub returns-in-Ok-Some-clause-frame : goal.returns-in-Ok-Some-clause-frame
returns-in-Ok-Some-clause-frame g c = frame_then _ _ _ _ _ _ _ (ok_not _ _) c.in_ok-watched.ensures.frame (frame_fine _ _ _ _ _ _ (ok_not _ _) (ok_not _ _) c.in-Ok-Some.ensures.frame)

pub returns-in-Ok-None-clause-frame : goal.returns-in-Ok-None-clause-frame
returns-in-Ok-None-clause-frame g c = frame_then _ _ _ _ _ _ _ (ok_not _ _) c.in_ok-watched.ensures.frame (frame_then _ _ _ _ _ _ _ (ok_not _ _) c.in-Ok-None.ensures.frame c.watchful_from.ensures.frame)

pub returns-in-Err-clause-frame : goal.returns-in-Err-clause-frame
returns-in-Err-clause-frame g c = frame_then _ _ _ _ _ _ _ (ok_not _ _) c.in_ok-watched.ensures.frame (frame_passed_on _ _ _ _ c.in-Err.stop c.in-Err.ensures.frame)
