use Rattle.std.proofs.Common.{ℕ, ◌+◌, List, [], ◌∷◌, vec_len, refl, ◌∙◌, ap, subst, arith}
use Rattle.fund_shelf.specs.Causes.{IsRead}
use Rattle.fund_shelf.proofs.Asking.{asks_none, asks_again}
use Rattle.fund_shelf.proofs.FrameLaws.{frame_none, frame_read, frame_same, frame_then, memory_not, ok_not}
use Rattle.block_feed.proofs.PartLaws.{part_few, part_more, part_none}
use Rattle.block_feed.proofs.parts.read_pieces.Goals as goal

pub reading-init : goal.reading-init
reading-init g c = record {
  few = omega (arith, c.in_ok-part.ensures.len);
  read = λ told. part_none c.in_ok-part.part.items ((g.H.Shelf.view c.args.shelf.now).files c.args.name.now) (vec_len c.in_ok-part.part) c.args.at c.in_ok-part.ensures.items c.in_ok-part.ensures.len;
  same = λ told. refl;
  reads = refl;
  writes = refl;
  asked = λ told. asks_none (c.args.name.now ∷ []) (g.H.Shelf.view c.args.shelf.now).asked;
}

pub reading-preserved : goal.reading-preserved
reading-preserved g c = record {
  few = part_few _ _ _ _ _ (omega (arith, c.min-kept.ensures, c.len-in-reading-2.ensures)) c.reading.invariant.few c.in_ok-extend_from_slice.ensures.len;
  read = λ told.
      let read = subst (λ (files : List ℕ → List ℕ). IsRead (files c.args.name.now) (c.args.at + c.len-in-reading.result) c.in_ok-read.read c.read_at.new.buf) (c.reading.invariant.same told) (c.in_ok-read.ensures.bytes told) in
      part_more _ _ _ _ _ _ _ _ _ _ (c.reading.invariant.read told) (ap (λ (k : ℕ). c.args.at + k) c.len-in-reading.ensures) read c.in_ok-read.ensures.bound (omega (arith, c.min-kept.ensures)) c.in_ok-extend_from_slice.ensures.items c.in_ok-extend_from_slice.ensures.len;
  same = λ told. c.in_ok-read.ensures.same told ∙ c.reading.invariant.same told;
  reads = c.in_ok-read.ensures.unfailed ∙ c.reading.invariant.reads;
  writes = c.in_ok-read.ensures.writes ∙ c.reading.invariant.writes;
  asked = λ told. asks_again _ _ _ _ (c.reading.invariant.asked told) (c.in_ok-read.ensures.asked told);
}

pub returns-in_err-part-clause-frame : goal.returns-in_err-part-clause-frame
returns-in_err-part-clause-frame g c = frame_none _ _ _ _ (memory_not c.from_residual.result c.from_residual.ensures.1)

pub returns-in_err-read-clause-frame : goal.returns-in_err-read-clause-frame
returns-in_err-read-clause-frame g c =
    frame_then _ ⊥ _ _ _ _ _ (λ failed. failed)
    (frame_same _ ⊥ _ _ _ (λ failed. failed) c.reading.invariant.same c.reading.invariant.reads c.reading.invariant.writes c.reading.invariant.asked)
    (frame_read _ _ _ _ c.in_err-read.field-0.0 c.from_residual-in_err-read.result c.from_residual-in_err-read.ensures.1 c.in_err-read.ensures.same c.in_err-read.ensures.reads c.in_err-read.ensures.writes c.in_err-read.ensures.cause c.in_err-read.ensures.short c.in_err-read.ensures.asked)

pub returns-then-read-eq0-clause-frame : goal.returns-then-read-eq0-clause-frame
returns-then-read-eq0-clause-frame g c =
    frame_same _ _ _ _ _ (ok_not _ _)
    (λ told. c.in_ok-read.ensures.same told ∙ c.reading.invariant.same told)
    (c.in_ok-read.ensures.unfailed ∙ c.reading.invariant.reads)
    (c.in_ok-read.ensures.writes ∙ c.reading.invariant.writes)
    (λ told. asks_again _ _ _ _ (c.reading.invariant.asked told) (c.in_ok-read.ensures.asked told))

pub returns-in_err-extend_from_slice-clause-frame : goal.returns-in_err-extend_from_slice-clause-frame
returns-in_err-extend_from_slice-clause-frame g c =
    frame_same _ _ _ _ _ (memory_not c.from_residual-in_err-extend_from_slice.result c.from_residual-in_err-extend_from_slice.ensures.1)
    (λ told. c.in_ok-read.ensures.same told ∙ c.reading.invariant.same told)
    (c.in_ok-read.ensures.unfailed ∙ c.reading.invariant.reads)
    (c.in_ok-read.ensures.writes ∙ c.reading.invariant.writes)
    (λ told. asks_again _ _ _ _ (c.reading.invariant.asked told) (c.in_ok-read.ensures.asked told))

pub returns-clause-frame : goal.returns-clause-frame
returns-clause-frame g c = frame_same _ _ _ _ _ (ok_not _ _) c.reading.invariant.same c.reading.invariant.reads c.reading.invariant.writes c.reading.invariant.asked
