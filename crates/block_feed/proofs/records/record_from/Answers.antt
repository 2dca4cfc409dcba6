use Rattle.std.proofs.Common.{◌≡◌, ◌≤◌, ◌<◌, ℕ, ◌+◌, true, false, ltb, List, length, take, drop, Ok, Err, None, sym, ◌∙◌, ap, subst, arith}
use Rattle.std.specs.Prelude.{◌==◌, option_map}
use Rattle.std.specs.List.{list_all}
use Rattle.fund_base.specs.Cursor.{IsBytes}
use Rattle.fund_base.specs.Writer.{Feeds}
use Rattle.block_feed.specs.Digest.{HasTaken}
use Rattle.block_feed.specs.Feed.{seen_from}
use Rattle.block_feed.specs.Parts.{body_in}
use Rattle.block_feed.specs.Reading.{ended_at, record_at, size_at}
use Rattle.block_feed.specs.declared.fault.FeedFault.{FeedFault}
use Rattle.fund_shelf.proofs.FrameLaws.{frame_fine, frame_passed, frame_then, ok_not}
use Rattle.block_feed.proofs.FrameLaws.{frame_made, frame_told}
use Rattle.block_feed.proofs.NextLaws.{outside_exit, fault_exit}
use Rattle.block_feed.proofs.RecordLaws.{head_zero, head_some, rest_some, size_there, body_there, end_there, cut_there, zero_head, found_fault, found_short, found_whole, joined}
use Rattle.block_feed.proofs.records.record_from.Goals as goal

-- ---- what was found

pub returns-in_err-head-clause-gives : goal.returns-in_err-head-clause-gives
returns-in_err-head-clause-gives g c = λ told.
    let file : List ℕ = (g.H.Shelf.view c.args.shelf.now).files c.args.name.now in
    outside_exit c.in_err-head.field-0.0 c.from_residual.result (record_at (ltb 1073741824 (length file)) c.args.place (seen_from file c.args.place)) (λ o. option_map body_in o) c.from_residual.ensures.1

pub returns-in_err-end_at-clause-gives : goal.returns-in_err-end_at-clause-gives
returns-in_err-end_at-clause-gives g c = λ told.
    let file : List ℕ = (g.H.Shelf.view c.args.shelf.now).files c.args.name.now in
    let zero : list_all (λ b. b == 0) (take 8 (seen_from file c.args.place)) ≡ true = head_zero c.is_zero.result c.deref.result.now c.in_ok-head.head.items (seen_from file c.args.place) c.is_zero.ensures.value c.deref.ensures.value (c.in_ok-head.ensures.part told) c.if-is_zero.true in
    fault_exit c.in_err-end_at.field-0.0 c.from_residual-in_err-end_at.result (ended_at (ltb 1073741824 (length file)) c.args.place (seen_from file c.args.place)) (record_at (ltb 1073741824 (length file)) c.args.place (seen_from file c.args.place)) (λ (x : Unit {0}). None) (λ o. option_map body_in o) c.from_residual-in_err-end_at.ensures.1
    (end_there {X = Unit {0}} 1073741824 c.args.place ((g.H.Shelf.view c.args.shelf.now).files) ((g.H.Shelf.view c.part_of.new.shelf).files) c.args.name.now (Err c.in_err-end_at.field-0.0) (λ x. None) (c.in_ok-head.ensures.frame.same told) (c.in_err-end_at.ensures.gives told))
    (λ d e. zero_head (ltb 1073741824 (length file)) c.args.place (seen_from file c.args.place) zero ∙ e)

pub returns-then-is_zero-clause-gives : goal.returns-then-is_zero-clause-gives
returns-then-is_zero-clause-gives g c = λ told.
    let file : List ℕ = (g.H.Shelf.view c.args.shelf.now).files c.args.name.now in
    let zero : list_all (λ b. b == 0) (take 8 (seen_from file c.args.place)) ≡ true = head_zero c.is_zero.result c.deref.result.now c.in_ok-head.head.items (seen_from file c.args.place) c.is_zero.ensures.value c.deref.ensures.value (c.in_ok-head.ensures.part told) c.if-is_zero.true in
    let ended : ended_at (ltb 1073741824 (length file)) c.args.place (seen_from file c.args.place) ≡ Ok None = end_there {X = Unit {0}} 1073741824 c.args.place ((g.H.Shelf.view c.args.shelf.now).files) ((g.H.Shelf.view c.part_of.new.shelf).files) c.args.name.now (Ok c.in_ok-end_at.field-0) (λ x. None) (c.in_ok-head.ensures.frame.same told) (c.in_ok-end_at.ensures.gives told) in
    zero_head (ltb 1073741824 (length file)) c.args.place (seen_from file c.args.place) zero ∙ ended

pub returns-then-is_zero-clause-taken : goal.returns-then-is_zero-clause-taken
returns-then-is_zero-clause-taken g c = λ told.
    subst (λ (files : List ℕ → List ℕ). Feeds HasTaken c.args.hasher.now c.end_at.new.hasher (seen_from (files c.args.name.now) c.args.place)) (c.in_ok-head.ensures.frame.same told) (c.in_ok-end_at.ensures.taken told)

pub returns-in_err-size-clause-gives : goal.returns-in_err-size-clause-gives
returns-in_err-size-clause-gives g c = λ told.
    let file : List ℕ = (g.H.Shelf.view c.args.shelf.now).files c.args.name.now in
    let other : list_all (λ b. b == 0) c.in_ok-head.head.items ≡ false = head_some c.is_zero.result c.deref.result.now c.in_ok-head.head.items c.is_zero.ensures.value c.deref.ensures.value c.if-is_zero.false in
    let some : list_all (λ b. b == 0) (seen_from file c.args.place) ≡ false = rest_some c.in_ok-head.head.items (seen_from file c.args.place) other (c.in_ok-head.ensures.part told) in
    fault_exit c.in_err-size.field-0.0 c.from_residual-in_err-size.result (size_at (ltb 1073741824 (length file)) c.args.place c.in_ok-head.head.items) (record_at (ltb 1073741824 (length file)) c.args.place (seen_from file c.args.place)) (λ (n : ℕ). n) (λ o. option_map body_in o) c.from_residual-in_err-size.ensures.1
    (size_there 1073741824 c.args.place ((g.H.Shelf.view c.args.shelf.now).files) ((g.H.Shelf.view c.part_of.new.shelf).files) c.args.name.now c.deref-2.result.now c.in_ok-head.head.items (Err c.in_err-size.field-0.0) (c.in_ok-head.ensures.frame.same told) c.deref-2.ensures.value (c.in_err-size.ensures.gives told))
    (λ d e. found_fault (ltb 1073741824 (length file)) c.args.place (seen_from file c.args.place) c.in_ok-head.head.items d other (c.in_ok-head.ensures.part told) some e)

pub returns-in_err-body-clause-gives : goal.returns-in_err-body-clause-gives
returns-in_err-body-clause-gives g c = λ told.
    let file : List ℕ = (g.H.Shelf.view c.args.shelf.now).files c.args.name.now in
    outside_exit c.in_err-body.field-0.0 c.from_residual-in_err-body.result (record_at (ltb 1073741824 (length file)) c.args.place (seen_from file c.args.place)) (λ o. option_map body_in o) c.from_residual-in_err-body.ensures.1

pub returns-then-len-size-clause-gives : goal.returns-then-len-size-clause-gives
returns-then-len-size-clause-gives g c = λ told memory failed.
    let file : List ℕ = (g.H.Shelf.view c.args.shelf.now).files c.args.name.now in
    let other : list_all (λ b. b == 0) c.in_ok-head.head.items ≡ false = head_some c.is_zero.result c.deref.result.now c.in_ok-head.head.items c.is_zero.ensures.value c.deref.ensures.value c.if-is_zero.false in
    let some : list_all (λ b. b == 0) (seen_from file c.args.place) ≡ false = rest_some c.in_ok-head.head.items (seen_from file c.args.place) other (c.in_ok-head.ensures.part told) in
    let reads : size_at (ltb 1073741824 (length file)) c.args.place c.in_ok-head.head.items ≡ Ok c.in_ok-size.size = size_there 1073741824 c.args.place ((g.H.Shelf.view c.args.shelf.now).files) ((g.H.Shelf.view c.part_of.new.shelf).files) c.args.name.now c.deref-2.result.now c.in_ok-head.head.items (Ok c.in_ok-size.size) (c.in_ok-head.ensures.frame.same told) c.deref-2.ensures.value (c.in_ok-size.ensures.gives told) in
    let body : c.in_ok-body.body.items ≡ take c.in_ok-size.size (drop 8 (seen_from file c.args.place)) = body_there 1073741824 c.args.place c.in_ok-size.size ((g.H.Shelf.view c.args.shelf.now).files) ((g.H.Shelf.view c.size_from.new.shelf).files) c.args.name.now c.in_ok-body.body.items (c.in_ok-size.ensures.frame.same told ∙ c.in_ok-head.ensures.frame.same told) (c.in_ok-body.ensures.part told) in
    let len : c.len.result ≡ length c.in_ok-body.body.items = c.len.ensures ∙ c.in_ok-body.body.ok.0 in
    let few : length c.in_ok-body.body.items < c.in_ok-size.size = omega arith in
    let cut = cut_there 1073741824 (c.args.place + 4) ((g.H.Shelf.view c.args.shelf.now).files) ((g.H.Shelf.view c.part_of-2.new.shelf).files) c.args.name.now c.missing.result (c.in_ok-body.ensures.frame.same told ∙ c.in_ok-size.ensures.frame.same told ∙ c.in_ok-head.ensures.frame.same told) (c.missing.ensures.gives told memory failed) in
    found_short (ltb 1073741824 (length file)) c.args.place c.in_ok-size.size (seen_from file c.args.place) c.in_ok-head.head.items c.in_ok-body.body.items (c.in_ok-head.ensures.part told) some reads body few ∙ ap (λ (d : FeedFault). Err d) (sym cut)

pub returns-clause-gives : goal.returns-clause-gives
returns-clause-gives g c = λ told.
    let file : List ℕ = (g.H.Shelf.view c.args.shelf.now).files c.args.name.now in
    let other : list_all (λ b. b == 0) c.in_ok-head.head.items ≡ false = head_some c.is_zero.result c.deref.result.now c.in_ok-head.head.items c.is_zero.ensures.value c.deref.ensures.value c.if-is_zero.false in
    let some : list_all (λ b. b == 0) (seen_from file c.args.place) ≡ false = rest_some c.in_ok-head.head.items (seen_from file c.args.place) other (c.in_ok-head.ensures.part told) in
    let reads : size_at (ltb 1073741824 (length file)) c.args.place c.in_ok-head.head.items ≡ Ok c.in_ok-size.size = size_there 1073741824 c.args.place ((g.H.Shelf.view c.args.shelf.now).files) ((g.H.Shelf.view c.part_of.new.shelf).files) c.args.name.now c.deref-2.result.now c.in_ok-head.head.items (Ok c.in_ok-size.size) (c.in_ok-head.ensures.frame.same told) c.deref-2.ensures.value (c.in_ok-size.ensures.gives told) in
    let body : c.in_ok-body.body.items ≡ take c.in_ok-size.size (drop 8 (seen_from file c.args.place)) = body_there 1073741824 c.args.place c.in_ok-size.size ((g.H.Shelf.view c.args.shelf.now).files) ((g.H.Shelf.view c.size_from.new.shelf).files) c.args.name.now c.in_ok-body.body.items (c.in_ok-size.ensures.frame.same told ∙ c.in_ok-head.ensures.frame.same told) (c.in_ok-body.ensures.part told) in
    let len : c.len.result ≡ length c.in_ok-body.body.items = c.len.ensures ∙ c.in_ok-body.body.ok.0 in
    let enough : c.in_ok-size.size ≤ length c.in_ok-body.body.items = omega arith in
    found_whole (ltb 1073741824 (length file)) c.args.place c.in_ok-size.size (seen_from file c.args.place) c.in_ok-head.head.items c.in_ok-body.body.items (c.in_ok-head.ensures.part told) some reads body enough

pub returns-clause-stands : goal.returns-clause-stands
returns-clause-stands g c =
    let file : List ℕ = (g.H.Shelf.view c.args.shelf.now).files c.args.name.now in
    let len = c.len.ensures in
    let many = c.in_ok-size.ensures.least in
    let long : c.len.result ≡ length c.in_ok-body.body.items = c.len.ensures ∙ c.in_ok-body.body.ok.0 in
    let enough : c.in_ok-size.size ≤ length c.in_ok-body.body.items = omega arith in
    record {
      bytes = λ told.
          let body : c.in_ok-body.body.items ≡ take c.in_ok-size.size (drop 8 (seen_from file c.args.place)) = body_there 1073741824 c.args.place c.in_ok-size.size ((g.H.Shelf.view c.args.shelf.now).files) ((g.H.Shelf.view c.size_from.new.shelf).files) c.args.name.now c.in_ok-body.body.items (c.in_ok-size.ensures.frame.same told ∙ c.in_ok-head.ensures.frame.same told) (c.in_ok-body.ensures.part told) in
          joined (seen_from file c.args.place) c.in_ok-head.head.items c.in_ok-body.body.items c.in_ok-size.size (c.in_ok-head.ensures.part told) body enough;
      fits = subst (λ (l : List ℕ). IsBytes l) c.deref.ensures.value c.is_zero.ensures.bytes;
      least = omega arith;
      within = c.in_ok-body.ensures.within;
    }

-- ---- what it leaves of the shelf

pub returns-in_err-head-clause-frame : goal.returns-in_err-head-clause-frame
returns-in_err-head-clause-frame g c = frame_told _ _ _ _ c.in_err-head.field-0.0 c.from_residual.result c.from_residual.ensures.1 c.in_err-head.ensures.frame

pub returns-in_err-end_at-clause-frame : goal.returns-in_err-end_at-clause-frame
returns-in_err-end_at-clause-frame g c =
    frame_then _ _ _ _ _ _ _ (ok_not _ _) c.in_ok-head.ensures.frame
    (frame_passed _ _ _ _ c.in_err-end_at.field-0.0 _ c.from_residual-in_err-end_at.result c.from_residual-in_err-end_at.ensures.1 c.in_err-end_at.ensures.frame)

pub returns-then-is_zero-clause-frame : goal.returns-then-is_zero-clause-frame
returns-then-is_zero-clause-frame g c = frame_then _ _ _ _ _ _ _ (ok_not _ _) c.in_ok-head.ensures.frame (frame_fine _ _ _ _ _ _ (ok_not _ _) (ok_not _ _) c.in_ok-end_at.ensures.frame)

pub returns-in_err-size-clause-frame : goal.returns-in_err-size-clause-frame
returns-in_err-size-clause-frame g c =
    frame_then _ _ _ _ _ _ _ (ok_not _ _) c.in_ok-head.ensures.frame
    (frame_passed _ _ _ _ c.in_err-size.field-0.0 _ c.from_residual-in_err-size.result c.from_residual-in_err-size.ensures.1 c.in_err-size.ensures.frame)

pub returns-in_err-body-clause-frame : goal.returns-in_err-body-clause-frame
returns-in_err-body-clause-frame g c =
    frame_then _ _ _ _ _ _ _ (ok_not _ _) c.in_ok-head.ensures.frame
    (frame_then _ _ _ _ _ _ _ (ok_not _ _) c.in_ok-size.ensures.frame
    (frame_told _ _ _ _ c.in_err-body.field-0.0 c.from_residual-in_err-body.result c.from_residual-in_err-body.ensures.1 c.in_err-body.ensures.frame))

pub returns-then-len-size-clause-frame : goal.returns-then-len-size-clause-frame
returns-then-len-size-clause-frame g c =
    frame_then _ _ _ _ _ _ _ (ok_not _ _) c.in_ok-head.ensures.frame
    (frame_then _ _ _ _ _ _ _ (ok_not _ _) c.in_ok-size.ensures.frame
    (frame_then _ _ _ _ _ _ _ (ok_not _ _) c.in_ok-body.ensures.frame
    (frame_made _ _ _ _ c.missing.result c.missing.ensures.same c.missing.ensures.reads c.missing.ensures.writes c.missing.ensures.cause c.missing.ensures.unfailed c.missing.ensures.asked)))

pub returns-clause-frame : goal.returns-clause-frame
returns-clause-frame g c =
    frame_then _ _ _ _ _ _ _ (ok_not _ _) c.in_ok-head.ensures.frame
    (frame_then _ _ _ _ _ _ _ (ok_not _ _) c.in_ok-size.ensures.frame
    (frame_fine _ _ _ _ _ _ (ok_not _ _) (ok_not _ _) c.in_ok-body.ensures.frame))
