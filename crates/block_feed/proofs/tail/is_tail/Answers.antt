use Rattle.std.proofs.Common.{◌≡◌, ℕ, ◌+◌, ◌-◌, true, false, List, [], ◌∷◌, length, take, refl, sym, ◌∙◌, ap, subst, arith}
use Rattle.std.specs.Prelude.{◌==◌}
use Rattle.std.specs.List.{list_all}
use Rattle.fund_base.specs.Writer.{Feeds}
use Rattle.fund_shelf.proofs.Asking.{asks_none, asks_again}
use Rattle.block_feed.specs.Digest.{HasTaken}
use Rattle.block_feed.specs.Feed.{seen_from}
use Rattle.block_feed.specs.Parts.{IsFirstPart}
use Rattle.block_feed.proofs.DigestLaws.{taken_none, taken_more_from, taken_all_from}
use Rattle.fund_shelf.proofs.FrameLaws.{frame_fine, frame_passed, frame_same, frame_then, ok_not}
use Rattle.block_feed.proofs.PartLaws.{none_left, scan_none, scan_more, scan_end, scan_not}
use Rattle.block_feed.proofs.tail.is_tail.Goals as goal

pub scanning-init : goal.scanning-init
scanning-init g c =
    let none : c.args.place - c.args.place ≡ 0 = omega arith in
    record {
      from = omega arith;
      to = c.requires;
      zeros = λ told. scan_none (seen_from ((g.H.Shelf.view c.args.shelf.now).files c.args.name.now) c.args.place) (c.args.place - c.args.place) none;
      taken = λ told. taken_none c.args.hasher.now (seen_from ((g.H.Shelf.view c.args.shelf.now).files c.args.name.now) c.args.place) (c.args.place - c.args.place) none;
      asked_for = refl;
      same = λ told. refl;
      reads = refl;
      writes = refl;
      asked = λ told. asks_none (c.args.name.now ∷ []) (g.H.Shelf.view c.args.shelf.now).asked;
    }

pub scanning-preserved : goal.scanning-preserved
scanning-preserved g c =
    let first : g.H.Shelf.tells → IsFirstPart (seen_from ((g.H.Shelf.view c.args.shelf.now).files c.args.name.now) c.scanning.at) c.in_ok-piece.piece.items =
    λ told. subst (λ (files : List ℕ → List ℕ). IsFirstPart (seen_from (files c.args.name.now) c.scanning.at) c.in_ok-piece.piece.items) (c.scanning.invariant.same told) (c.in_ok-piece.ensures.piece told) in
    let zero : list_all (λ b. b == 0) c.in_ok-piece.piece.items ≡ true = ap (λ (l : List ℕ). list_all (λ b. b == 0) l) (sym c.deref.ensures.value) ∙ sym c.is_zero.ensures.value ∙ c.if-not-is_zero.false in
    let next : c.scanning.at + c.len.result ≡ c.scanning.at + length c.in_ok-piece.piece.items = ap (λ (n : ℕ). c.scanning.at + n) (c.len.ensures ∙ c.in_ok-piece.piece.ok.0) in
    let takes : Feeds HasTaken c.scanning.hasher c.take_in.new.hasher c.in_ok-piece.piece.items = subst (λ (l : List ℕ). Feeds HasTaken c.scanning.hasher c.take_in.new.hasher l) c.deref-in-scanning.ensures.value c.take_in.ensures.taken in
    let from = c.scanning.invariant.from in
    record {
      from = omega arith;
      to = omega (arith, c.in_ok-piece.ensures.within);
      zeros = λ told. scan_more (take 1073741824 ((g.H.Shelf.view c.args.shelf.now).files c.args.name.now)) c.in_ok-piece.piece.items c.args.place c.scanning.at (c.scanning.at + c.len.result) from next (first told) (c.scanning.invariant.zeros told) zero;
      taken = λ told. taken_more_from c.args.hasher.now c.scanning.hasher c.take_in.new.hasher (take 1073741824 ((g.H.Shelf.view c.args.shelf.now).files c.args.name.now)) c.in_ok-piece.piece.items c.args.place c.scanning.at (c.scanning.at + c.len.result) from next (first told) (c.scanning.invariant.taken told) takes;
      asked_for = c.take_in.ensures.asked_for ∙ c.scanning.invariant.asked_for;
      same = λ told. c.in_ok-piece.ensures.frame.same told ∙ c.scanning.invariant.same told;
      reads = c.in_ok-piece.ensures.frame.unfailed (ok_not _ _) ∙ c.scanning.invariant.reads;
      writes = c.in_ok-piece.ensures.frame.writes ∙ c.scanning.invariant.writes;
      asked = λ told. asks_again _ _ _ _ (c.scanning.invariant.asked told) (c.in_ok-piece.ensures.frame.asked told);
    }

pub returns-in_err-piece-clause-frame : goal.returns-in_err-piece-clause-frame
returns-in_err-piece-clause-frame g c =
    frame_then _ ⊥ _ _ _ _ _ (λ failed. failed)
    (frame_same _ ⊥ _ _ _ (λ failed. failed) c.scanning.invariant.same c.scanning.invariant.reads c.scanning.invariant.writes c.scanning.invariant.asked)
    (frame_passed _ _ _ _ c.in_err-piece.field-0.0 _ c.from_residual.result c.from_residual.ensures.1 c.in_err-piece.ensures.frame)

pub returns-then-is_empty-clause-tail : goal.returns-then-is_empty-clause-tail
returns-then-is_empty-clause-tail g c = λ told.
    let first : IsFirstPart (seen_from ((g.H.Shelf.view c.args.shelf.now).files c.args.name.now) c.scanning.at) c.in_ok-piece.piece.items =
    subst (λ (files : List ℕ → List ℕ). IsFirstPart (seen_from (files c.args.name.now) c.scanning.at) c.in_ok-piece.piece.items) (c.scanning.invariant.same told) (c.in_ok-piece.ensures.piece told) in
    let none = none_left _ c.in_ok-piece.piece.items _ c.is_empty.ensures c.if-is_empty.true c.in_ok-piece.piece.ok.0 in
    scan_end (take 1073741824 ((g.H.Shelf.view c.args.shelf.now).files c.args.name.now)) c.in_ok-piece.piece.items c.args.place c.scanning.at c.scanning.invariant.from none first (c.scanning.invariant.zeros told)

pub returns-then-is_empty-clause-taken : goal.returns-then-is_empty-clause-taken
returns-then-is_empty-clause-taken g c = λ told all.
    let first : IsFirstPart (seen_from ((g.H.Shelf.view c.args.shelf.now).files c.args.name.now) c.scanning.at) c.in_ok-piece.piece.items =
    subst (λ (files : List ℕ → List ℕ). IsFirstPart (seen_from (files c.args.name.now) c.scanning.at) c.in_ok-piece.piece.items) (c.scanning.invariant.same told) (c.in_ok-piece.ensures.piece told) in
    let none = none_left _ c.in_ok-piece.piece.items _ c.is_empty.ensures c.if-is_empty.true c.in_ok-piece.piece.ok.0 in
    taken_all_from c.args.hasher.now c.scanning.hasher (take 1073741824 ((g.H.Shelf.view c.args.shelf.now).files c.args.name.now)) c.in_ok-piece.piece.items c.args.place c.scanning.at c.scanning.invariant.from none first (c.scanning.invariant.taken told)

pub returns-then-is_empty-clause-frame : goal.returns-then-is_empty-clause-frame
returns-then-is_empty-clause-frame g c =
    frame_then _ ⊥ _ _ _ _ _ (λ failed. failed)
    (frame_same _ ⊥ _ _ _ (λ failed. failed) c.scanning.invariant.same c.scanning.invariant.reads c.scanning.invariant.writes c.scanning.invariant.asked)
    (frame_fine _ _ _ _ _ _ (ok_not _ _) (ok_not _ _) c.in_ok-piece.ensures.frame)

pub returns-then-not-is_zero-clause-tail : goal.returns-then-not-is_zero-clause-tail
returns-then-not-is_zero-clause-tail g c = λ told.
    let first : IsFirstPart (seen_from ((g.H.Shelf.view c.args.shelf.now).files c.args.name.now) c.scanning.at) c.in_ok-piece.piece.items =
    subst (λ (files : List ℕ → List ℕ). IsFirstPart (seen_from (files c.args.name.now) c.scanning.at) c.in_ok-piece.piece.items) (c.scanning.invariant.same told) (c.in_ok-piece.ensures.piece told) in
    let other : list_all (λ b. b == 0) c.in_ok-piece.piece.items ≡ false = ap (λ (l : List ℕ). list_all (λ b. b == 0) l) (sym c.deref.ensures.value) ∙ sym c.is_zero.ensures.value ∙ c.if-not-is_zero.true in
    scan_not (take 1073741824 ((g.H.Shelf.view c.args.shelf.now).files c.args.name.now)) c.in_ok-piece.piece.items c.args.place c.scanning.at c.scanning.invariant.from first other

pub returns-then-not-is_zero-clause-frame : goal.returns-then-not-is_zero-clause-frame
returns-then-not-is_zero-clause-frame g c =
    frame_then _ ⊥ _ _ _ _ _ (λ failed. failed)
    (frame_same _ ⊥ _ _ _ (λ failed. failed) c.scanning.invariant.same c.scanning.invariant.reads c.scanning.invariant.writes c.scanning.invariant.asked)
    (frame_fine _ _ _ _ _ _ (ok_not _ _) (ok_not _ _) c.in_ok-piece.ensures.frame)
