use Rattle.std.proofs.Common.{◌≡◌, ℕ, true, false, ltb, List, length, None, ◌∙◌, ap}
use Rattle.block_feed.specs.Feed.{seen_from}
use Rattle.block_feed.specs.Reading.{ended_at}
use Rattle.fund_shelf.proofs.FrameLaws.{frame_fine, frame_then, ok_not}
use Rattle.block_feed.proofs.FrameLaws.{frame_told, limit_not, magic_not}
use Rattle.block_feed.proofs.NextLaws.{outside_exit}
use Rattle.block_feed.proofs.RecordLaws.{ended_not, ended_long, ended_all}
use Rattle.block_feed.proofs.tail.end_at.Goals as goal

pub returns-in_err-zeros-clause-gives : goal.returns-in_err-zeros-clause-gives
returns-in_err-zeros-clause-gives g c = λ told.
    let file : List ℕ = (g.H.Shelf.view c.args.shelf.now).files c.args.name.now in
    outside_exit c.in_err-zeros.field-0.0 c.from_residual.result (ended_at (ltb 1073741824 (length file)) c.args.place (seen_from file c.args.place)) (λ _. None) c.from_residual.ensures.1

pub returns-then-not-zeros-clause-gives : goal.returns-then-not-zeros-clause-gives
returns-then-not-zeros-clause-gives g c = λ told memory failed.
    let file : List ℕ = (g.H.Shelf.view c.args.shelf.now).files c.args.name.now in
    let none : c.in_ok-zeros.zeros ≡ false = c.if-not-zeros.true in
    ended_not (ltb 1073741824 (length file)) c.in_ok-zeros.zeros c.args.place (seen_from file c.args.place) (c.in_ok-zeros.ensures.tail told) none

pub returns-in_err-longer-clause-gives : goal.returns-in_err-longer-clause-gives
returns-in_err-longer-clause-gives g c = λ told.
    let file : List ℕ = (g.H.Shelf.view c.args.shelf.now).files c.args.name.now in
    outside_exit c.in_err-longer.field-0.0 c.from_residual-in_err-longer.result (ended_at (ltb 1073741824 (length file)) c.args.place (seen_from file c.args.place)) (λ _. None) c.from_residual-in_err-longer.ensures.1

pub returns-then-longer-clause-gives : goal.returns-then-longer-clause-gives
returns-then-longer-clause-gives g c = λ told memory failed.
    let file : List ℕ = (g.H.Shelf.view c.args.shelf.now).files c.args.name.now in
    let all : c.in_ok-zeros.zeros ≡ true = c.if-not-zeros.false in
    let same : c.in_ok-longer.longer ≡ ltb 1073741824 (length file) = c.in_ok-longer.ensures.longer told ∙ ap (λ (files : List ℕ → List ℕ). ltb 1073741824 (length (files c.args.name.now))) (c.in_ok-zeros.ensures.frame.same told) in
    ended_long (ltb 1073741824 (length file)) c.in_ok-zeros.zeros c.in_ok-longer.longer c.args.place (seen_from file c.args.place) (c.in_ok-zeros.ensures.tail told) all same c.if-longer.true

pub returns-clause-gives : goal.returns-clause-gives
returns-clause-gives g c = λ told.
    let file : List ℕ = (g.H.Shelf.view c.args.shelf.now).files c.args.name.now in
    let all : c.in_ok-zeros.zeros ≡ true = c.if-not-zeros.false in
    let same : c.in_ok-longer.longer ≡ ltb 1073741824 (length file) = c.in_ok-longer.ensures.longer told ∙ ap (λ (files : List ℕ → List ℕ). ltb 1073741824 (length (files c.args.name.now))) (c.in_ok-zeros.ensures.frame.same told) in
    ended_all (ltb 1073741824 (length file)) c.in_ok-zeros.zeros c.in_ok-longer.longer c.args.place (seen_from file c.args.place) (c.in_ok-zeros.ensures.tail told) all same c.if-longer.false

pub returns-clause-taken : goal.returns-clause-taken
returns-clause-taken g c = λ told.
    let all : c.in_ok-zeros.zeros ≡ true = c.if-not-zeros.false in
    c.in_ok-zeros.ensures.taken told all

pub returns-in_err-longer-clause-frame : goal.returns-in_err-longer-clause-frame
returns-in_err-longer-clause-frame g c =
    frame_then _ _ _ _ _ _ _ (ok_not _ _) c.in_ok-zeros.ensures.frame
    (frame_told _ _ _ _ c.in_err-longer.field-0.0 c.from_residual-in_err-longer.result c.from_residual-in_err-longer.ensures.1 c.in_err-longer.ensures.frame)

pub returns-then-longer-clause-frame : goal.returns-then-longer-clause-frame
returns-then-longer-clause-frame g c =
    frame_then _ _ _ _ _ _ _ (ok_not _ _) c.in_ok-zeros.ensures.frame (frame_fine _ _ _ _ _ _ (ok_not _ _) limit_not c.in_ok-longer.ensures.frame)

pub returns-clause-frame : goal.returns-clause-frame
returns-clause-frame g c =
    frame_then _ _ _ _ _ _ _ (ok_not _ _) c.in_ok-zeros.ensures.frame (frame_fine _ _ _ _ _ _ (ok_not _ _) (ok_not _ _) c.in_ok-longer.ensures.frame)

pub returns-in_err-zeros-clause-frame : goal.returns-in_err-zeros-clause-frame
returns-in_err-zeros-clause-frame g c = frame_told _ _ _ _ c.in_err-zeros.field-0.0 c.from_residual.result c.from_residual.ensures.1 c.in_err-zeros.ensures.frame

pub returns-then-not-zeros-clause-frame : goal.returns-then-not-zeros-clause-frame
returns-then-not-zeros-clause-frame g c = frame_fine _ _ _ _ _ _ (ok_not _ _) (magic_not _) c.in_ok-zeros.ensures.frame
