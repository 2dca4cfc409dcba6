use Rattle.std.proofs.Common.{◌≤◌, ℕ, false, Bool, ltb, List, length, ap, arith}
use Rattle.block_feed.specs.Reading.{size_at}
use Rattle.fund_shelf.proofs.FrameLaws.{frame_fine, frame_none, ok_not}
use Rattle.block_feed.proofs.FrameLaws.{frame_told}
use Rattle.block_feed.proofs.NextLaws.{outside_exit, yields_finds}
use Rattle.block_feed.proofs.RecordLaws.{size_same}
use Rattle.block_feed.proofs.records.size_from.Goals as goal

pub returns-in_err-longer-clause-gives : goal.returns-in_err-longer-clause-gives
returns-in_err-longer-clause-gives g c = λ told.
    let file : List ℕ = (g.H.Shelf.view c.args.shelf.now).files c.args.name.now in
    outside_exit c.in_err-longer.field-0.0 c.from_residual.result (size_at (ltb 1073741824 (length file)) c.args.place c.args.head.now) (λ n. n) c.from_residual.ensures.1

pub returns-then-head-lt8-clause-gives : goal.returns-then-head-lt8-clause-gives
returns-then-head-lt8-clause-gives g c = λ told.
    let file : List ℕ = (g.H.Shelf.view c.args.shelf.now).files c.args.name.now in
    yields_finds c.size_of.result (size_at c.in_ok-longer.longer c.args.place c.args.head.now) (size_at (ltb 1073741824 (length file)) c.args.place c.args.head.now) (λ n. n)
    (ap (λ (b : Bool). size_at b c.args.place c.args.head.now) (c.in_ok-longer.ensures.longer told)) c.size_of.ensures.gives

pub returns-clause-gives : goal.returns-clause-gives
returns-clause-gives g c = λ told.
    let file : List ℕ = (g.H.Shelf.view c.args.shelf.now).files c.args.name.now in
    let long : 8 ≤ length c.args.head.now = omega arith in
    yields_finds c.size_of-2.result (size_at false c.args.place c.args.head.now) (size_at (ltb 1073741824 (length file)) c.args.place c.args.head.now) (λ n. n)
    (size_same (ltb 1073741824 (length file)) c.args.place c.args.head.now long) c.size_of-2.ensures.gives

pub returns-in_err-longer-clause-frame : goal.returns-in_err-longer-clause-frame
returns-in_err-longer-clause-frame g c = frame_told _ _ _ _ c.in_err-longer.field-0.0 c.from_residual.result c.from_residual.ensures.1 c.in_err-longer.ensures.frame

pub returns-then-head-lt8-clause-frame : goal.returns-then-head-lt8-clause-frame
returns-then-head-lt8-clause-frame g c = frame_fine _ _ _ _ _ _ (ok_not _ _) c.size_of.ensures.never_read c.in_ok-longer.ensures.frame

pub returns-clause-frame : goal.returns-clause-frame
returns-clause-frame g c = frame_none _ _ _ _ c.size_of-2.ensures.never_read
