use Rattle.std.proofs.Common.{◌∙◌, Some, refl}
use Rattle.fund_shelf.proofs.FrameLaws.{frame_fine, ok_not}
use Rattle.fund_files.proofs.DigestSteps.{digest_is}
use Rattle.fund_files.proofs.WatchedLaws.{none_unwatched}
use Rattle.fund_files.proofs.wallet_book.settled_from.Goals as goal

pub unreachable-requires : goal.unreachable-requires
unreachable-requires g c = rw c.in-Whole.is at (c.in_ok-booked.ensures.keeps (Some c.args.watched) c.in-Ok.ensures.keeps)

pub returns-in-Some-clause-digest : goal.returns-in-Some-clause-digest
returns-in-Some-clause-digest g c = λ t asked. c.digest-digest.ensures ∙ digest_is c.feed_behind-feed.result.hasher _ _ (c.feed_behind-feed.ensures.asked_for asked) (c.in_ok-booked.ensures.digest t)

pub returns-in-Some-clause-frame : goal.returns-in-Some-clause-frame
returns-in-Some-clause-frame g c = frame_fine _ _ _ _ _ _ (ok_not _ _) (ok_not _ _) c.in_ok-booked.ensures.frame

pub returns-in-None-clause-settled : goal.returns-in-None-clause-settled
returns-in-None-clause-settled g c = λ is.
    let kept = rw c.in-Part.is at (c.in_ok-booked.ensures.keeps (Some c.args.watched) c.in-Ok.ensures.keeps) in
    absurd (none_unwatched c.in-Part.book (kept ∙ is) (c.in-None.ensures.unwatched.0 refl))

pub returns-in-None-clause-frame : goal.returns-in-None-clause-frame
returns-in-None-clause-frame g c = frame_fine _ _ _ _ _ _ (ok_not _ _) (ok_not _ _) c.in_ok-booked.ensures.frame
